-- Parts that are behind one another are read back.
use Rattle.mscp_saved.proofs.Common.{◌≡◌, ℕ, zero, suc, ◌*◌, List, [], ◌∷◌, ◌++◌, take, drop, length, append_assoc, refl, arith, flat_map, AllByRecursion, drop-drop, length-append, part, parts_in}

-- what is written of something is so long, and is read as it, whatever is behind
pub record IsBack {X : Type 0} (f : List ℕ → X) (g : X → List ℕ) (size : ℕ) (x : X) : Type 0 where
  pub back : (t : List ℕ) → f (take size (g x ++ t)) ≡ x
  pub rest : (t : List ℕ) → drop size (g x ++ t) ≡ t
  pub long : length (g x) ≡ size

next_part : (size n : ℕ) (b : List ℕ) → part size (suc n) b ≡ part size n (drop size b)
next_part size n b = search (arith, drop-drop (size * n) size b)

front : {X : Type 0} (f : List ℕ → X) (size n : ℕ) (b : List ℕ)
    → parts_in f size (suc n) b ≡ f (take size b) ∷ parts_in f size n (drop size b)
front f size zero b = search arith
front f size (suc n) b = search (arith, front f size n b, next_part size n b)

pub parts_said : {X : Type 0} (f : List ℕ → X) (g : X → List ℕ) (size : ℕ) (xs : List X) (t : List ℕ)
    → AllByRecursion (IsBack f g size) xs → parts_in f size (length xs) (flat_map g xs ++ t) ≡ xs
parts_said f g size [] t h = refl
parts_said f g size (x ∷ xs) t h = search (
  arith,
  append_assoc (g x) (flat_map g xs) t,
  front f size (length xs) (flat_map g (x ∷ xs) ++ t),
  parts_said f g size xs t h.1,
)

pub parts_rest : {X : Type 0} (f : List ℕ → X) (g : X → List ℕ) (size : ℕ) (xs : List X) (t : List ℕ)
    → AllByRecursion (IsBack f g size) xs → drop (size * length xs) (flat_map g xs ++ t) ≡ t
parts_rest f g size [] t h = search arith
parts_rest f g size (x ∷ xs) t h = search (
  arith,
  drop-drop (size * length xs) size (flat_map g (x ∷ xs) ++ t),
  append_assoc (g x) (flat_map g xs) t,
  parts_rest f g size xs t h.1,
)

pub parts_long : {X : Type 0} (f : List ℕ → X) (g : X → List ℕ) (size : ℕ) (xs : List X)
    → AllByRecursion (IsBack f g size) xs → length (flat_map g xs) ≡ size * length xs
parts_long f g size [] h = omega arith
parts_long f g size (x ∷ xs) h = search (arith, parts_long f g size xs h.1, length-append (g x) (flat_map g xs))
