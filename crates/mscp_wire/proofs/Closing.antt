-- A connection that closes takes its commands away, and no other.
use Rattle.mscp_wire.proofs.Common.{Bool, Connection, List, Sent, [], ap, arith, command_at, cond, false, is_on, length, list_any, not, others_of, refl, remove, suc, true, zero, ℕ, ◌<◌, ◌||◌, ◌∷◌, ◌≡◌}

-- one of its commands is away
pub others_removed : (via : Connection) (xs : List Sent) (i : ℕ) → i < length xs → is_on via (command_at xs i) ≡ true
    → others_of via (remove xs i) ≡ others_of via xs
others_removed via [] i low on = absurd (omega (arith, low))
others_removed via (x ∷ xs) zero low on = by_test (is_on via x) on
  where
    by_test : (b : Bool) → b ≡ true → others_of via xs ≡ cond (not b) (x ∷ others_of via xs) (others_of via xs)
    by_test true h = refl
    by_test false h = cc
others_removed via (x ∷ xs) (suc i) low on =
    ap (λ ys. cond (not (is_on via x)) (x ∷ ys) ys) (others_removed via xs i (omega (arith, low)) on)

-- if it has none all stay
pub others_all : (via : Connection) (xs : List Sent) → list_any (is_on via) xs ≡ false → others_of via xs ≡ xs
others_all via [] h = refl
others_all via (x ∷ xs) h = by_test (is_on via x) h (others_all via xs)
  where
    by_test : (b : Bool) → (b || list_any (is_on via) xs) ≡ false
        → (list_any (is_on via) xs ≡ false → others_of via xs ≡ xs)
        → cond (not b) (x ∷ others_of via xs) (others_of via xs) ≡ x ∷ xs
    by_test true h rest = cc
    by_test false h rest = ap (λ ys. x ∷ ys) (rest h)
