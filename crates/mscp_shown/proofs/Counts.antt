-- How many elements of a list pass a test.
use Rattle.mscp_shown.proofs.Common.{AllByRecursion, Bool, List, Some, [], ap, arith, cond, count_by, drop, every_from, every_kept, every_weaker, false, filter, filter_all, find_cases, get_or, length, list_any, map, not, or_parts, position, position_first, refl, sum_by-append, sum_by-cons, sum_by-drop_more, sum_by-take-drop, sum_by_map, sum_on, take, true, ℕ, ⊎_elim, ◌&&◌, ◌++◌, ◌+◌, ◌<◌, ◌∙◌, ◌∷◌, ◌≡◌, ◌≤◌}

module _ {X : Type 0} (p : X → Bool) where
  -- those that pass a test, and those that don't
  pub parted : (q : X → Bool) (xs : List X)
      → count_by p (filter (λ x. not (q x)) xs) + count_by p (filter q xs) ≡ count_by p xs
  parted q [] = refl
  parted q (x ∷ xs) =
      let f : X → ℕ = λ x. cond (p x) 1 0 in
      search (
        arith,
        not,
        parted q xs,
        sum_by-cons f x xs,
        sum_by-cons f x (filter q xs),
        sum_by-cons f x (filter (λ x. not (q x)) xs),
      )

  -- an element that a filter kept is filtered out
  pub one_gone : (q keep : X → Bool) (y : X) (front back : List X) → AllByRecursion (λ x. keep x ≡ true) front
      → AllByRecursion (λ x. keep x ≡ true) back → keep y ≡ false
      → count_by p (filter keep (filter q (front ++ y ∷ back))) + cond (q y && p y) 1 0
      ≡ count_by p (filter q (front ++ y ∷ back))
  one_gone q keep y [] back f b e =
      let all = filter_all keep (filter q back) (every_kept (λ x. keep x ≡ true) q back b) in
      search (arith, all, sum_by-cons (λ x. cond (p x) 1 0) y (filter q back))
  one_gone q keep y (x ∷ xs) back f b e =
      let rest = one_gone q keep y xs back f.1 b e in
      let g : X → ℕ = λ x. cond (p x) 1 0 in
      search (
        arith,
        rest,
        sum_by-cons g x (filter q (xs ++ y ∷ back)),
        sum_by-cons g x (filter keep (filter q (xs ++ y ∷ back))),
      )

  -- none passes
  pub none_passes : (xs : List X) → list_any p xs ≡ false → count_by p xs ≡ 0
  none_passes [] h = refl
  none_passes (x ∷ xs) h =
      let o = or_parts (p x) (list_any p xs) h in
      sum_by-cons (λ x. cond (p x) 1 0) x xs ∙ ap (λ b. cond b 1 0 + count_by p xs) o.0
      ∙ omega (arith, none_passes xs o.1)

  pub none_any : (xs : List X) → count_by p xs ≡ 0 → list_any p xs ≡ false
  none_any [] h = refl
  none_any (x ∷ xs) h = search (arith, sum_by-cons (λ x. cond (p x) 1 0) x xs, none_any xs)

  -- one passes, so there is a first
  pub some_place : (xs : List X) → 1 ≤ count_by p xs → (i : ℕ) × (position p xs ≡ Some i)
  some_place xs h = ⊎_elim
      (λ none. absurd (omega (arith, h, none_counted xs none)))
      (λ some. let f = some.3 in
      (length some.0, ap (position p) f.is ∙ position_first p some.0 some.1 some.2 f.before f.passed))
      (find_cases p xs)
    where
      none_counted : (xs : List X) → AllByRecursion (λ x. p x ≡ false) xs → count_by p xs ≡ 0
      none_counted [] h = refl
      none_counted (x ∷ xs) h = grind (arith, none_counted xs h.1)

  -- one goes out, and those before it change in what the test doesn't see
  pub removed : (f : X → X) (xs : List X) (i : ℕ) (d : X) → ((x : X) → p (f x) ≡ p x) → i < length xs
      → count_by p (map f (take i xs) ++ drop (i + 1) xs) + cond (p (get_or xs i d)) 1 0 ≡ count_by p xs
  removed f xs i d same h =
      let g : X → ℕ = λ x. cond (p x) 1 0 in
      let mapped : count_by p (map f (take i xs)) ≡ count_by p (take i xs) = sum_by_map f g (take i xs)
      ∙ sum_on (λ x. g (f x)) g (take i xs) (every_from (λ x. g (f x) ≡ g x) (λ x. ap (λ b. cond b 1 0) (same x)) (take
      i xs)) in
      omega (
        arith,
        mapped,
        sum_by-append g (map f (take i xs)) (drop (i + 1) xs),
        sum_by-take-drop g xs i,
        sum_by-drop_more g xs i d h,
      )

pub all_pass : {X : Type 0} (xs : List X) → count_by (λ x. true) xs ≡ length xs
all_pass [] = refl
all_pass (x ∷ xs) = search (arith, all_pass xs, sum_by-cons (λ x. 1) x xs)

-- each element is counted
pub each_counted : {X : Type 0} (same : X → X → Bool) → ((x : X) → same x x ≡ true) → (xs : List X)
    → AllByRecursion (λ x. 1 ≤ count_by (λ y. same y x) xs) xs
each_counted same own [] = tt
each_counted {X} same own (x ∷ xs) = (
  omega (arith, sum_by-cons (λ y. cond (same y x) 1 0) x xs, ap one_if (own x)),
  every_weaker (λ z. 1 ≤ count_by (λ y. same y z) xs) (λ z. 1 ≤ count_by (λ y. same y z) (x ∷ xs))
      (λ z h. omega (arith, h, sum_by-cons (λ y. cond (same y z) 1 0) x xs)) xs (each_counted same own xs),
)
  where
    one_if : Bool → ℕ
    one_if b = cond b 1 0
