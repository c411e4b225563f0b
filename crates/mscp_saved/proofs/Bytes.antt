-- Bytes that grow at their end.
use Rattle.mscp_saved.proofs.Common.{◌≡◌, ℕ, List, ◌++◌, append_assoc, ap, ◌∙◌, arith, little_bytes}

-- a number of so many bytes behind others
pub grow : (xs a : List ℕ) (n x x' : ℕ) {ys zs : List ℕ} → ys ≡ xs ++ a → zs ≡ ys ++ little_bytes n x → x ≡ x'
    → zs ≡ xs ++ (a ++ little_bytes n x')
grow xs a n x x' e f g = search (arith, append_assoc xs a (little_bytes n x))

-- more bytes behind others
pub more : (xs a b b' : List ℕ) {ys zs : List ℕ} → ys ≡ xs ++ a → zs ≡ ys ++ b → b ≡ b' → zs ≡ xs ++ (a ++ b')
more xs a b b' e f g = search (arith, append_assoc xs a b)

-- the first bytes behind others
pub first : (xs b b' : List ℕ) {zs : List ℕ} → zs ≡ xs ++ b → b ≡ b' → zs ≡ xs ++ b'
first xs b b' f g = f ∙ ap (λ t. xs ++ t) g
