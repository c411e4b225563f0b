-- Lists by recursion: what agrees at each element, ranges, and filters of filters.
use Rattle.mscp_queue.proofs.Common.{◌≡◌, ℕ, zero, suc, ◌+◌, ◌<◌, ◌≤◌, Bool, true, false, cond, ◌&&◌, List, [], ◌∷◌, ◌++◌, map, length, refl, ap, sym, ◌∙◌, arith, filter, sum_by, flat_map, AllByRecursion, list_all, range_with_len, and_parts, map-id, filter-append, sum_by-cons, map-range_with_len_more, Pairs}

pub every_weaker : {X : Type 0} (P Q : X → Type 0) → ((x : X) → P x → Q x) → (xs : List X) → AllByRecursion P xs
    → AllByRecursion Q xs
every_weaker P Q f [] h = tt
every_weaker P Q f (x ∷ xs) h = (f x h.0, every_weaker P Q f xs h.1)

pub every_from : {X : Type 0} (P : X → Type 0) → ((x : X) → P x) → (xs : List X) → AllByRecursion P xs
every_from P f [] = tt
every_from P f (x ∷ xs) = (f x, every_from P f xs)

pub every_both : {X : Type 0} (P Q : X → Type 0) → (xs : List X) → AllByRecursion P xs → AllByRecursion Q xs
    → AllByRecursion (λ x. P x × Q x) xs
every_both P Q [] h k = tt
every_both P Q (x ∷ xs) h k = ((h.0, k.0), every_both P Q xs h.1 k.1)

-- each element passes a test that all pass
pub every_of : {X : Type 0} (p : X → Bool) (xs : List X) → list_all p xs ≡ true → AllByRecursion (λ x. p x ≡ true) xs
every_of p [] h = tt
every_of p (x ∷ xs) h = let b = and_parts (p x) (list_all p xs) h in (b.0, every_of p xs b.1)

pub every_append : {X : Type 0} (P : X → Type 0) → (xs ys : List X) → AllByRecursion P xs → AllByRecursion P ys
    → AllByRecursion P (xs ++ ys)
every_append P [] ys h k = k
every_append P (x ∷ xs) ys h k = (h.0, every_append P xs ys h.1 k)

pub every_parts : {X : Type 0} (P : X → Type 0) → (xs ys : List X) → AllByRecursion P (xs ++ ys)
    → AllByRecursion P xs × AllByRecursion P ys
every_parts P [] ys h = (tt, h)
every_parts P (x ∷ xs) ys h = let r = every_parts P xs ys h.1 in ((h.0, r.0), r.1)

pub every_filter : {X : Type 0} (P : X → Type 0) (p : X → Bool) → (xs : List X) → AllByRecursion P xs
    → AllByRecursion (λ x. P x × (p x ≡ true)) (filter p xs)
every_filter P p [] h = tt
every_filter {X} P p (x ∷ xs) h = search (arith, every_filter P p xs h.1)

pub every_mapped : {X Y : Type 0} (f : X → Y) (P : Y → Type 0) (xs : List X) → AllByRecursion P (map f xs)
    → AllByRecursion (λ x. P (f x)) xs
every_mapped f P [] h = tt
every_mapped f P (x ∷ xs) h = (h.0, every_mapped f P xs h.1)

-- a filter keeps no more than there is
pub fewer : {X : Type 0} (p : X → Bool) (xs : List X) → length (filter p xs) ≤ length xs
fewer p [] = omega arith
fewer p (x ∷ xs) = search (arith, fewer p xs)

pub filter_on : {X : Type 0} (p q : X → Bool) (xs : List X) → AllByRecursion (λ x. p x ≡ q x) xs
    → filter p xs ≡ filter q xs
filter_on p q [] h = refl
filter_on p q (x ∷ xs) h = search (arith, filter_on p q xs h.1)

pub sum_on : {X : Type 0} (f g : X → ℕ) (xs : List X) → AllByRecursion (λ x. f x ≡ g x) xs → sum_by f xs ≡ sum_by g xs
sum_on f g [] h = refl
sum_on f g (x ∷ xs) h = search (arith, sum_by-cons f x xs, sum_on f g xs h.1, sum_by-cons g x xs)

pub sum_none : {X : Type 0} (f : X → ℕ) (xs : List X) → AllByRecursion (λ x. f x ≡ 0) xs → sum_by f xs ≡ 0
sum_none f [] h = refl
sum_none f (x ∷ xs) h = sum_by-cons f x xs ∙ ap (λ n. n + sum_by f xs) h.0 ∙ omega (arith, sum_none f xs h.1)

pub filter_filter : {X : Type 0} (p q : X → Bool) (xs : List X) → filter p (filter q xs) ≡ filter (λ x. q x && p x) xs
filter_filter p q [] = refl
filter_filter p q (x ∷ xs) = search (arith, filter_filter p q xs)

pub filter_all : {X : Type 0} (p : X → Bool) (xs : List X) → AllByRecursion (λ x. p x ≡ true) xs → filter p xs ≡ xs
filter_all p [] h = refl
filter_all p (x ∷ xs) h = ap (λ b. cond b (x ∷ filter p xs) (filter p xs)) h.0 ∙ ap (λ ys. x ∷ ys) (filter_all p xs h.1)

pub filter_none : {X : Type 0} (p : X → Bool) (xs : List X) → AllByRecursion (λ x. p x ≡ false) xs → filter p xs ≡ []
filter_none p [] h = refl
filter_none p (x ∷ xs) h = ap (λ b. cond b (x ∷ filter p xs) (filter p xs)) h.0 ∙ filter_none p xs h.1

-- one element passes
pub filter_one : {X : Type 0} (p : X → Bool) (xs : List X) (y : X) (ys : List X) → AllByRecursion (λ x. p x ≡ false) xs
    → p y ≡ true → AllByRecursion (λ x. p x ≡ false) ys → filter p (xs ++ y ∷ ys) ≡ y ∷ []
filter_one p xs y ys h e k = search (arith, filter-append p xs (y ∷ ys), filter_none p xs h, filter_none p ys k)

pub range_more : (n : ℕ) → range_with_len 0 (n + 1) ≡ range_with_len 0 n ++ n ∷ []
range_more n = sym (map-id _) ∙ (map-range_with_len_more (λ (x : ℕ). x) 0 n n (omega arith)
    ∙ ap (λ l. l ++ n ∷ []) (map-id _))

pub range_below : (a n : ℕ) → AllByRecursion (λ x. (a ≤ x) × (x < a + n)) (range_with_len a n)
range_below a zero = tt
range_below a (suc n) = search (arith, range_below (a + 1) n, every_weaker)

pub pairs_range : (a n : ℕ) → Pairs ◌<◌ (range_with_len a n)
pairs_range a zero = tt
pairs_range a (suc n) = search (arith, range_below (a + 1) n, pairs_range (a + 1) n, every_weaker)

pub every_kept : {X : Type 0} (P : X → Type 0) (p : X → Bool) → (xs : List X) → AllByRecursion P xs
    → AllByRecursion P (filter p xs)
every_kept P p xs h = every_weaker (λ x. P x × (p x ≡ true)) P (λ x h. h.0) (filter p xs) (every_filter P p xs h)

pub pairs_filter : {X : Type 0} (R : X → X → Type 0) (p : X → Bool) (xs : List X) → Pairs R xs → Pairs R (filter p xs)
pairs_filter R p [] h = tt
pairs_filter R p (x ∷ xs) h = search (arith, every_kept (R x) p xs h.0, pairs_filter R p xs h.1)

pub pairs_append : {X : Type 0} (R : X → X → Type 0) (xs : List X) (y : X) → Pairs R xs → AllByRecursion (λ x. R x y) xs
    → Pairs R (xs ++ y ∷ [])
pairs_append R [] y h k = (tt, tt)
pairs_append R (x ∷ xs) y h k = (every_append (R x) xs (y ∷ []) h.0 (k.0, tt), pairs_append R xs y h.1 k.1)

-- at an element in the middle
pub pairs_middle : {X : Type 0} (R : X → X → Type 0) (xs : List X) (y : X) (ys : List X) → Pairs R (xs ++ y ∷ ys)
    → AllByRecursion (λ x. R x y) xs × AllByRecursion (R y) ys
pairs_middle R [] y ys h = (tt, h.0)
pairs_middle R (x ∷ xs) y ys h = search (arith, pairs_middle R xs y ys h.1, every_parts (R x) xs (y ∷ ys) h.0)

pub flat_on : {X Y : Type 0} (f g : X → List Y) (xs : List X) → AllByRecursion (λ x. f x ≡ g x) xs
    → flat_map f xs ≡ flat_map g xs
flat_on f g [] h = refl
flat_on f g (x ∷ xs) h = ap (λ l. l ++ flat_map f xs) h.0 ∙ ap (λ l. g x ++ l) (flat_on f g xs h.1)

-- without an element in the middle
pub pairs_cut : {X : Type 0} (R : X → X → Type 0) (xs : List X) (y : X) (ys : List X) → Pairs R (xs ++ y ∷ ys)
    → Pairs R (xs ++ ys)
pairs_cut R [] y ys h = h.1
pairs_cut R (x ∷ xs) y ys h = search (arith, every_parts (R x) xs (y ∷ ys) h.0, pairs_cut R xs y ys h.1, every_append)
