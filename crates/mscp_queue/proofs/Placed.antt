-- Lists cut at a place, and lists that a function makes of others.
use Rattle.mscp_queue.proofs.Common.{◌≡◌, ◌⊎◌, ⊎_elim, inl, inr, ℕ, ◌+◌, ◌<◌, Bool, true, false, cond, not, ◌||◌, List, [], ◌∷◌, ◌++◌, map, take, drop, get_or, length, refl, ap, sym, ◌∙◌, subst, append_assoc, arith, filter, find, sum_by, Option, Some, None, is_some, AllByRecursion, list_any, position, position_or_len, cases_lt, false≢true, lt-ltb, le-ltb, drop_at, drop_more, get_or_append_left, get_or_at, length-append, take-append-drop, take-append-le, take_at, sum_by-cons}

pub map_on : {X Y : Type 0} (f g : X → Y) (xs : List X) → AllByRecursion (λ x. f x ≡ g x) xs → map f xs ≡ map g xs
map_on f g [] h = refl
map_on f g (x ∷ xs) h = ap (λ y. y ∷ map f xs) h.0 ∙ ap (λ ys. g x ∷ ys) (map_on f g xs h.1)

pub map_map : {X Y Z : Type 0} (f : X → Y) (g : Y → Z) (xs : List X) → map g (map f xs) ≡ map (λ x. g (f x)) xs
map_map f g [] = refl
map_map f g (x ∷ xs) = ap (λ ys. g (f x) ∷ ys) (map_map f g xs)

pub sum_by_map : {X Y : Type 0} (f : X → Y) (g : Y → ℕ) (xs : List X) → sum_by g (map f xs) ≡ sum_by (λ x. g (f x)) xs
sum_by_map f g [] = refl
sum_by_map f g (x ∷ xs) = search (arith, sum_by-cons, sum_by_map f g xs)

pub filter_map_of : {X Y : Type 0} (f : X → Y) (p : Y → Bool) (xs : List X)
    → filter p (map f xs) ≡ map f (filter (λ x. p (f x)) xs)
filter_map_of f p [] = refl
filter_map_of f p (x ∷ xs) = search (arith, filter_map_of f p xs)

-- ---- a list at a place
pub record At {X : Type 0} (xs front : List X) (x : X) (back : List X) (k : ℕ) (d : X) : Type 0 where
  pub item : get_or xs k d ≡ x
  pub before : take k xs ≡ front
  pub behind : drop (k + 1) xs ≡ back

pub at_place : {X : Type 0} (xs front : List X) (x : X) (back : List X) (k : ℕ) (d : X)
    → xs ≡ front ++ x ∷ back → length front ≡ k → At xs front x back k d
at_place {X} xs front x back k d e l = search (
  arith,
  append_assoc front (x ∷ []) back,
  length-append front (x ∷ []),
  get_or_at front x back d k l,
  take_at front (x ∷ back) k l,
  drop_at,
)

-- a list is cut at each of its places
pub cut_at : {X : Type 0} (d : X) (xs : List X) (place : ℕ) → place < length xs
    → xs ≡ take place xs ++ get_or xs place d ∷ drop (place + 1) xs
cut_at d xs place l = sym (take-append-drop place xs) ∙ ap (λ zs. take place xs ++ zs) (drop_more xs place d l)

-- what holds of each element and of those in front of it, with one more
pub each_push : {X : Type 0} (d : X) (R : List X → X → Type 0) (xs : List X) (x : X)
    → ((i : ℕ) → i < length xs → R (take i xs) (get_or xs i d)) → R xs x
    → (i : ℕ) → i < length (xs ++ x ∷ []) → R (take i (xs ++ x ∷ [])) (get_or (xs ++ x ∷ []) i d)
each_push {X} d R xs x l r i h =
    grind (arith, length-append, get_or_at, take_at, ⊎_elim, get_or_append_left, take-append-le, cases_lt)

-- ---- the first element that passes a test
-- none does, or the list is cut at the first that does
pub record Found {X : Type 0} (p : X → Bool) (xs front : List X) (x : X) (back : List X) : Type 0 where
  pub is : xs ≡ front ++ x ∷ back
  pub before : AllByRecursion (λ y. p y ≡ false) front
  pub passed : p x ≡ true

pub find_cases : {X : Type 0} (p : X → Bool) (xs : List X)
    → AllByRecursion (λ y. p y ≡ false) xs ⊎ ((front : List X) × (x : X) × (back : List X) × Found p xs front x back)
find_cases p [] = inl tt
find_cases {X} p (y ∷ ys) =
    let both : (b : Bool) → p y ≡ b → AllByRecursion (λ z. p z ≡ false) (y ∷ ys) ⊎ ((front : List X) × (x : X)
    × (back : List X) × Found p (y ∷ ys) front x back) = λ b. elim b as (λ b. p y ≡ b → AllByRecursion (λ z. p z
    ≡ false) (y ∷ ys) ⊎ ((front : List X) × (x : X) × (back : List X) × Found p (y ∷ ys) front x back)) [
      | true ↦ λ e. inr ([], y, ys, record { is = refl; before = tt; passed = e })
      | false ↦ λ e. elim (find_cases p ys) as (λ r. AllByRecursion (λ z. p z ≡ false) (y ∷ ys)
          ⊎ ((front : List X) × (x : X) × (back : List X) × Found p (y ∷ ys) front x back)) [
            | inl h ↦ inl (e, h)
            | inr h ↦ inr (
              y ∷ h.0,
              h.1,
              h.2,
              record { is = ap (λ zs. y ∷ zs) h.3.is; before = (e, h.3.before); passed = h.3.passed },
            )
          ]
    ] in
    both (p y) refl

pub find_none : {X : Type 0} (p : X → Bool) (xs : List X) → AllByRecursion (λ y. p y ≡ false) xs → find p xs ≡ None
find_none p [] h = refl
find_none p (y ∷ ys) h = ap (λ b. cond b (Some y) (find p ys)) h.0 ∙ find_none p ys h.1

pub find_first : {X : Type 0} (p : X → Bool) (front : List X) (x : X) (back : List X)
    → AllByRecursion (λ y. p y ≡ false) front → p x ≡ true → find p (front ++ x ∷ back) ≡ Some x
find_first p [] x back h e = ap (λ b. cond b (Some x) (find p back)) e
find_first p (y ∷ ys) x back h e = search (arith, find_first p ys x back h.1 e)

-- what is found passes the test
pub found_is : {X : Type 0} (p : X → Bool) (xs : List X) (x : X) → find p xs ≡ Some x → p x ≡ true
found_is p [] x e = absurd (false≢true (ap is_some e))
found_is {X} p (y ∷ xs) x e =
    let out : (b : Bool) → p y ≡ b → cond b (Some y) (find p xs) ≡ Some x → p x ≡ true =
    λ b. elim b as (λ b. p y ≡ b → cond b (Some y) (find p xs) ≡ Some x → p x ≡ true) [
      | true ↦ λ q f. subst (λ (o : Option X). elim o as (λ o. Type 0) [ Some z ↦ p z ≡ true | None ↦ Unit {0} ]) f q
      | false ↦ λ q f. found_is p xs x f
    ] in
    out (p y) refl e

module _ {X : Type 0} (p : X → Bool) where
  len_none : (xs : List X) → AllByRecursion (λ y. p y ≡ false) xs → position_or_len p xs ≡ length xs
  len_none [] h = refl
  len_none (y ∷ ys) h = ap (λ b. cond (not b) (1 + position_or_len p ys) 0) h.0 ∙ omega (arith, len_none ys h.1)

  len_first : (front : List X) (x : X) (back : List X)
      → AllByRecursion (λ y. p y ≡ false) front → p x ≡ true → position_or_len p (front ++ x ∷ back) ≡ length front
  len_first [] x back h e = ap (λ b. cond (not b) (1 + position_or_len p back) 0) e
  len_first (y ∷ ys) x back h e = search (arith, len_first ys x back h.1 e, not)

  pub position_none : (xs : List X) → AllByRecursion (λ y. p y ≡ false) xs → position p xs ≡ None
  position_none xs h = search (arith, len_none xs h, le-ltb (length xs) (length xs) (omega arith))

pub position_first : {X : Type 0} (p : X → Bool) (front : List X) (x : X) (back : List X)
    → AllByRecursion (λ y. p y ≡ false) front → p x ≡ true → position p (front ++ x ∷ back) ≡ Some (length front)
position_first p front x back h e = grind (arith, len_first, lt-ltb, length-append)

-- one is found where one passes
pub position_any : {X : Type 0} (p : X → Bool) (xs : List X) → is_some (position p xs) ≡ list_any p xs
position_any p xs =
    ⊎_elim
    (λ none. ap is_some (position_none p xs none) ∙ sym (none_any p xs none))
    (λ some. let f = some.3 in
    ap (λ ys. is_some (position p ys)) f.is ∙ ap is_some (position_first p some.0 some.1 some.2 f.before f.passed)
    ∙ (sym (some_any p some.0 some.1 some.2 f.passed) ∙ ap (list_any p) (sym f.is)))
    (find_cases p xs)
  where
    none_any : {X : Type 0} (p : X → Bool) (xs : List X) → AllByRecursion (λ y. p y ≡ false) xs → list_any p xs ≡ false
    none_any p [] h = refl
    none_any p (y ∷ ys) h = ap (λ b. b || list_any p ys) h.0 ∙ none_any p ys h.1

    some_any : {X : Type 0} (p : X → Bool) (front : List X) (x : X) (back : List X) → p x ≡ true
        → list_any p (front ++ x ∷ back) ≡ true
    some_any p [] x back e = ap (λ b. b || list_any p back) e
    some_any p (y ∷ ys) x back e = grind (arith, some_any p ys x back e)
