-- Parts of one size in bytes.
use Rattle.std.specs.Prelude.{ℕ, zero, suc, List, [], ◌∷◌, drop}

-- so many parts of a size, one behind the other, each of which says what is read of it
abbrev pub parts_in : {X : Type 0} → (List ℕ → X) → ℕ → ℕ → List ℕ → List X
parts_in f size zero b = []
parts_in f size (suc n) b = f b ∷ parts_in f size n (drop size b)
