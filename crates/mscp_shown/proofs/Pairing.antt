-- What holds of each element of a list and each after it.
use Rattle.mscp_shown.proofs.Common.{AllByRecursion, Bool, List, Pairs, [], ap, arith, drop, false, get_or, length, list_any, map, refl, suc, take, zero, ℕ, ◌++◌, ◌+◌, ◌<◌, ◌||◌, ◌∙◌, ◌∷◌, ◌≡◌}

module _ {X : Type 0} where
  pub every_index : (P : X → Type 0) (xs : List X) (d : X) → ((j : ℕ) → j < length xs → P (get_or xs j d))
      → AllByRecursion P xs
  every_index P [] d h = tt
  every_index P (x ∷ xs) d h =
      (h zero (omega arith), every_index P xs d (λ j l. h (suc j) (omega (arith, l))))

  pub index_every : (P : X → Type 0) (xs : List X) (d : X) → AllByRecursion P xs → (j : ℕ) → j < length xs
      → P (get_or xs j d)
  index_every P (x ∷ xs) d h (suc j) l = index_every P xs d h.1 j (omega (arith, l))
  index_every P xs d h j l = grind arith

  pub pairs_index : (R : X → X → Type 0) (xs : List X) (d : X)
      → ((i j : ℕ) → i < j → j < length xs → R (get_or xs i d) (get_or xs j d)) → Pairs R xs
  pairs_index R [] d h = tt
  pairs_index R (x ∷ xs) d h = (
    every_index (R x) xs d (λ j l. h zero (suc j) (omega arith) (omega (arith, l))),
    pairs_index R xs d (λ i j l m. h (suc i) (suc j) (omega (arith, l)) (omega (arith, m))),
  )

  pub index_pairs : (R : X → X → Type 0) (xs : List X) (d : X) → Pairs R xs → (i j : ℕ) → i < j → j < length xs
      → R (get_or xs i d) (get_or xs j d)
  index_pairs R (x ∷ xs) d h (suc i) (suc j) l m =
      index_pairs R xs d h.1 i j (omega (arith, l)) (omega (arith, m))
  index_pairs R xs d h i j l m = grind (arith, index_every)

  pub pairs_weaker : (R Q : X → X → Type 0) → ((x y : X) → R x y → Q x y) → (xs : List X) → Pairs R xs → Pairs Q xs
  pairs_weaker R Q f [] h = tt
  pairs_weaker R Q f (x ∷ xs) h = (each xs h.0, pairs_weaker R Q f xs h.1)
    where
      each : (ys : List X) → AllByRecursion (R x) ys → AllByRecursion (Q x) ys
      each [] k = tt
      each (y ∷ ys) k = (f x y k.0, each ys k.1)

  -- the first of each pair is so
  pub pairs_first : (P : X → Type 0) (R : X → X → Type 0) (xs : List X) → AllByRecursion P xs → Pairs R xs
      → Pairs (λ x y. P x × R x y) xs
  pairs_first P R [] h k = tt
  pairs_first P R (x ∷ xs) h k = (each xs k.0, pairs_first P R xs h.1 k.1)
    where
      each : (ys : List X) → AllByRecursion (R x) ys → AllByRecursion (λ y. P x × R x y) ys
      each [] k' = tt
      each (y ∷ ys) k' = ((h.0, k'.0), each ys k'.1)

  module _ (f : X → X) where
    every_out : (P : X → Type 0) → ((x : X) → P x → P (f x)) → (i : ℕ) (xs : List X) → AllByRecursion P xs
        → AllByRecursion P (map f (take i xs) ++ drop (suc i) xs)
    every_out P g (suc i) (x ∷ xs) h = (g x h.0, every_out P g i xs h.1)
    every_out P g i xs h = grind arith

    pairs_gone : (R : X → X → Type 0) → ((x y : X) → R x y → R (f x) y) → ((x y : X) → R x y → R x (f y))
        → (i : ℕ) (xs : List X) → Pairs R xs → Pairs R (map f (take i xs) ++ drop (suc i) xs)
    pairs_gone R g k (suc i) (x ∷ xs) h = (
      every_out (R (f x)) (λ y. k (f x) y) i xs (each xs h.0),
      pairs_gone R g k i xs h.1,
    )
      where
        each : (ys : List X) → AllByRecursion (R x) ys → AllByRecursion (R (f x)) ys
        each [] q = tt
        each (y ∷ ys) q = (g x y q.0, each ys q.1)
    pairs_gone R g k i xs h = grind arith

    -- one element is taken out, and those before it change in what the relation doesn't see
    pub pairs_out : (R : X → X → Type 0) → ((x y : X) → R x y → R (f x) y) → ((x y : X) → R x y → R x (f y))
        → (i : ℕ) (xs : List X) → Pairs R xs → Pairs R (map f (take i xs) ++ drop (i + 1) xs)
    pairs_out R g k i xs h = grind (arith, pairs_gone)

-- none passes
pub none_of : {X : Type 0} (p : X → Bool) (xs : List X) → AllByRecursion (λ x. p x ≡ false) xs → list_any p xs ≡ false
none_of p [] h = refl
none_of p (x ∷ xs) h = ap (λ b. b || list_any p xs) h.0 ∙ none_of p xs h.1
