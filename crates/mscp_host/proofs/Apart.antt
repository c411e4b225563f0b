-- Outstanding submissions stay apart.
use Rattle.mscp_host.proofs.Common.{◌≡◌, ℕ, true, false, ◌||◌, List, [], ◌∷◌, ◌++◌, length, refl, arith, list_any, refill, take-append-le, take_all, Submission, has_reference, with_told, without, are_apart}

-- ---- a figure is told

module _ (r f : ℕ) where
  any_told : (n : ℕ) (xs : List Submission)
      → list_any (has_reference n) (with_told r f xs) ≡ list_any (has_reference n) xs
  any_told n [] = refl
  any_told n (s ∷ rest) = search (arith, any_told n rest)

  pub apart_told : (xs : List Submission) → are_apart (with_told r f xs) ≡ are_apart xs
  apart_told [] = refl
  apart_told (s ∷ rest) = search (arith, apart_told rest, any_told s.reference rest)

  pub told_long : (xs : List Submission) → length (with_told r f xs) ≡ length xs
  told_long [] = refl
  told_long (s ∷ rest) = search (arith, told_long rest)

  -- the list is filled with all of them
  pub refilled : (n : ℕ) (xs ws : List Submission) → n ≡ length xs → ws ≡ with_told r f xs → refill n xs ws ≡ ws
  refilled n xs ws all is = search (arith, told_long, take-append-le, take_all)

-- ---- one leaves

module _ (r : ℕ) where
  none_without : (n : ℕ) (xs : List Submission) → list_any (has_reference n) xs ≡ false
      → list_any (has_reference n) (without r xs) ≡ false
  none_without n [] e = refl
  none_without n (s ∷ rest) e = grind (arith, none_without n rest)

  pub apart_without : (xs : List Submission) → are_apart xs ≡ true → are_apart (without r xs) ≡ true
  apart_without [] e = refl
  apart_without (s ∷ rest) e = grind (arith, apart_without rest, none_without)

-- ---- one comes

module _ (s : Submission) where
  none_more : (n : ℕ) (xs : List Submission) → list_any (has_reference n) xs ≡ false → has_reference n s ≡ false
      → list_any (has_reference n) (xs ++ s ∷ []) ≡ false
  none_more n [] e h = λ i. h i || false
  none_more n (x ∷ rest) e h = grind (arith, none_more n rest)

  pub apart_more : (xs : List Submission) → are_apart xs ≡ true → list_any (has_reference s.reference) xs ≡ false
      → are_apart (xs ++ s ∷ []) ≡ true
  apart_more [] e n = refl
  apart_more (x ∷ rest) e n = grind (arith, apart_more rest, none_more)
