-- Lists by recursion: what agrees at each element, ranges, filters, and what a test finds.
use Rattle.mscp_host.proofs.Common.{◌≡◌, ℕ, zero, suc, ◌+◌, ◌<◌, ◌≤◌, Bool, true, false, List, [], ◌∷◌, ◌++◌, map, refl, ap, sym, ◌∙◌, arith, ◌&&◌, filter, find, Option, Some, None, is_some, option_map, option_to_list, option_or, AllByRecursion, last_or, list_any, range_with_len, cases_eq, false≢true, true≢false, map-id, map-range_with_len_more, before}

-- ---- each element

pub every_weaker : {X : Type 0} (P Q : X → Type 0) → ((x : X) → P x → Q x) → (xs : List X) → AllByRecursion P xs
    → AllByRecursion Q xs
every_weaker P Q f [] h = tt
every_weaker P Q f (x ∷ xs) h = (f x h.0, every_weaker P Q f xs h.1)

pub every_passes : {X : Type 0} (p : X → Bool) (xs : List X) → AllByRecursion (λ x. p x ≡ true) (filter p xs)
every_passes p [] = tt
every_passes p (x ∷ xs) = search (arith, every_passes p xs)

-- each that is kept has it, so each that passes the test
pub every_kept : {X : Type 0} (P : X → Type 0) (p : X → Bool) (xs : List X) → AllByRecursion P (filter p xs)
    → AllByRecursion (λ x. p x ≡ true → P x) xs
every_kept P p [] h = tt
every_kept {X} P p (x ∷ xs) h = search (arith, Bool, true≢false, every_kept P p xs)

pub map_on : {X Y : Type 0} (f g : X → Y) (xs : List X) → AllByRecursion (λ x. f x ≡ g x) xs → map f xs ≡ map g xs
map_on f g [] h = refl
map_on f g (x ∷ xs) h = search (arith, map_on f g xs h.1)

pub map_map : {X Y Z : Type 0} (f : X → Y) (g : Y → Z) (xs : List X) → map g (map f xs) ≡ map (λ x. g (f x)) xs
map_map f g [] = refl
map_map f g (x ∷ xs) = search (arith, map_map f g xs)

-- ---- filters

pub filter_on : {X : Type 0} (p q : X → Bool) (xs : List X) → AllByRecursion (λ x. p x ≡ q x) xs
    → filter p xs ≡ filter q xs
filter_on p q [] h = refl
filter_on p q (x ∷ xs) h = search (arith, filter_on p q xs h.1)

pub filter_filter : {X : Type 0} (p q : X → Bool) (xs : List X) → filter p (filter q xs) ≡ filter (λ x. q x && p x) xs
filter_filter p q [] = refl
filter_filter p q (x ∷ xs) = search (arith, filter_filter p q xs)

pub filter_all : {X : Type 0} (p : X → Bool) (xs : List X) → AllByRecursion (λ x. p x ≡ true) xs → filter p xs ≡ xs
filter_all p [] h = refl
filter_all p (x ∷ xs) h = search (arith, filter_all p xs h.1)

pub filter_map_of : {X Y : Type 0} (f : X → Y) (p : Y → Bool) (xs : List X)
    → filter p (map f xs) ≡ map f (filter (λ x. p (f x)) xs)
filter_map_of f p [] = refl
filter_map_of f p (x ∷ xs) = search (arith, filter_map_of f p xs)

-- ---- what a test finds

pub find_map : {X Y : Type 0} (f : X → Y) (p : Y → Bool) (xs : List X)
    → find p (map f xs) ≡ option_map f (find (λ x. p (f x)) xs)
find_map f p [] = refl
find_map f p (x ∷ xs) = search (arith, find_map f p xs)

pub find_filter : {X : Type 0} (p q : X → Bool) (xs : List X) → find p (filter q xs) ≡ find (λ x. q x && p x) xs
find_filter p q [] = refl
find_filter p q (x ∷ xs) = search (arith, find_filter p q xs)

pub find_on : {X : Type 0} (p q : X → Bool) (xs : List X) → AllByRecursion (λ x. p x ≡ q x) xs → find p xs ≡ find q xs
find_on p q [] h = refl
find_on p q (x ∷ xs) h = search (arith, find_on p q xs h.1)

pub find_none : {X : Type 0} (p : X → Bool) (xs : List X) → AllByRecursion (λ x. p x ≡ false) xs → find p xs ≡ None
find_none p [] h = refl
find_none p (x ∷ xs) h = search (arith, find_none p xs h.1)

pub none_found : {X : Type 0} (p : X → Bool) (xs : List X) → find p xs ≡ None → AllByRecursion (λ x. p x ≡ false) xs
none_found p [] e = tt
none_found p (x ∷ xs) e = search (arith, none_found p xs, false≢true)

pub none_any : {X : Type 0} (p : X → Bool) (xs : List X) → list_any p xs ≡ false → AllByRecursion (λ x. p x ≡ false) xs
none_any p [] e = tt
none_any p (x ∷ xs) e = search (arith, none_any p xs, true≢false)

pub any_map : {X Y : Type 0} (f : X → Y) (p : Y → Bool) (xs : List X)
    → list_any p (map f xs) ≡ list_any (λ x. p (f x)) xs
any_map f p [] = refl
any_map f p (x ∷ xs) = search (arith, any_map f p xs)

-- what is found passes the test, and has what each has
pub found : {X : Type 0} (P : X → Type 0) (p : X → Bool) (xs : List X) (x : X) → AllByRecursion P xs
    → find p xs ≡ Some x → P x × (p x ≡ true)
found P p [] x h e = absurd (false≢true (ap is_some e))
found {X} P p (y ∷ ys) x h e = search (arith, Bool, found P p ys x h.1)

-- ---- the positions before one

pub before_more : (j : ℕ) → before (j + 1) ≡ before j ++ j ∷ []
before_more j = sym (map-id _) ∙ (map-range_with_len_more (λ (x : ℕ). x) 0 j j (omega arith)
    ∙ ap (λ l. l ++ j ∷ []) (map-id _))

range_below : (a n : ℕ) → AllByRecursion (λ x. (a ≤ x) × (x < a + n)) (range_with_len a n)
range_below a zero = tt
range_below a (suc n) = search (arith, range_below (a + 1) n, every_weaker)

pub before_below : (j : ℕ) → AllByRecursion (λ k. k < j) (before j)
before_below j = search (arith, range_below 0 j, every_weaker)

range_at : (P : ℕ → Type 0) (a n x : ℕ) → AllByRecursion P (range_with_len a n) → a ≤ x → x < a + n → P x
range_at P a zero x h l u = absurd (omega (arith, l, u))
range_at P a (suc n) x h l u = search (arith, cases_eq, range_at P (a + 1) n x h.1)

pub before_at : (P : ℕ → Type 0) (j x : ℕ) → AllByRecursion P (before j) → x < j → P x
before_at P j x h l = range_at P 0 j x h (omega arith) (omega (arith, l))

-- ---- the last one

pub last_more : {X : Type 0} (d : Option X) (xs : List X) (o : Option X)
    → last_or d (xs ++ option_to_list o) ≡ option_or o (last_or d xs)
last_more d (x ∷ xs) o = last_more (Some x) xs o
last_more d xs o = search arith
