-- Parts that are read one after the other.
use Rattle.mscp_saved.proofs.Common.{◌≡◌, ℕ, ◌+◌, List, [], ◌∷◌, ◌++◌, add-one, append_assoc, arith, part, parts_in}

-- one more is read, behind what was there before
pub part_more : {X : Type 0} (f : List ℕ → X) (size n : ℕ) (b : List ℕ) (ws : List X) {xs ys : List X}
    {x : X} {p : List ℕ} → xs ≡ ws ++ parts_in f size n b → p ≡ part size n b → x ≡ f p → ys ≡ xs ++ x ∷ []
    → ys ≡ ws ++ parts_in f size (n + 1) b
part_more f size n b ws {x = x} e is read more = search (arith, add-one, append_assoc)
