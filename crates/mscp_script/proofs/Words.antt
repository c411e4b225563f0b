-- The words of a command line.
use Rattle.mscp_script.proofs.Common.{◌≡◌, ◌<◌, ◌≤◌, ℕ, List, [], ◌∷◌, length, map, get_or, refl, arith, Err, codes, bytes_eq-Decides, chosen}
use Rattle.mscp_script.specs.declared.choosing.LineFault.TheVariants as faults

-- a list of two words
pub two_words : {A : Type 0} (f : A → List ℕ) (ws : List A) (a b : A) → 2 ≤ length ws → length ws < 3
    → a ≡ get_or ws 0 a → b ≡ get_or ws 1 b → map f ws ≡ f a ∷ f b ∷ []
two_words f [] a b least below first second = absurd (omega arith)
two_words f (x ∷ []) a b least below first second = absurd (omega arith)
two_words f (x ∷ y ∷ []) a b least below first second = rw (first, second) refl
two_words f (x ∷ y ∷ z ∷ ws) a b least below first second = absurd (omega arith)

-- another command than the two
pub neither : (command operand : List ℕ) → (command ≡ codes "run" → ⊥) → (command ≡ codes "packet" → ⊥)
    → chosen (command ∷ operand ∷ []) ≡ Err faults.Usage
neither command operand run packet = search (arith, bytes_eq-Decides)
