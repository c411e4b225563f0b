-- The first of the cheapest of some starts.
use Rattle.mscp_queue.proofs.Common.{◌≡◌, ◌⊎◌, inl, ⊎_elim, ℕ, ◌≤◌, Bool, true, false, cond, arith, eqb-true, eqb-false, ltb-true, ltb-false, IsAhead, IsBest, comes_before}
use Rattle.mscp_queue.specs.Starts.{Start}

-- the same places at the same costs
pub best_same : {P Q : ℕ → Type 0} {c d : ℕ → ℕ} {s : Start} → ((p : ℕ) → P p → Q p × (c p ≡ d p))
    → ((p : ℕ) → Q p → P p) → IsBest P c s → IsBest Q d s
best_same f g h = grind (arith, ⊎_elim)

-- of no places
pub best_none : {P : ℕ → Type 0} {c : ℕ → ℕ} (s : Start) → s.place ≡ 64 → ((p : ℕ) → P p → ⊥) → IsBest P c s
best_none {P} {c} s e none = record { is = inl e; each = λ p h. absurd (none p h) }

ahead_of : (a b : Start) (cost place : ℕ) → IsAhead a b.cost b.place → IsAhead b cost place → IsAhead a cost place
ahead_of a b cost place h k = grind arith

-- of two
before : (one other : Start) → other.place ≤ 64 → comes_before one other ≡ true
    → (one.place ≡ 64 → ⊥) × ((other.place ≡ 64) ⊎ IsAhead one other.cost other.place)
before one other l e = grind (arith, eqb-true, ltb-true, ltb-false)

not_before : (one other : Start) → one.place ≤ 64 → comes_before one other ≡ false
    → (one.place ≡ 64) ⊎ ((other.place ≡ 64 → ⊥) × IsAhead other one.cost one.place)
not_before one other l e = grind (arith, eqb-false, ltb-true, ltb-false)

-- the best is a command's or none's
best_known : {P : ℕ → Type 0} {c : ℕ → ℕ} {s : Start} → IsBest P c s → s.place ≤ 64
best_known {P} {c} {s} h = ⊎_elim (λ e. omega (arith, e)) (λ x. let l = (h.each s.place x.0).0 in omega (arith, l)) h.is

pub best_of_two : {P Q : ℕ → Type 0} {c : ℕ → ℕ} {one other : Start} (s : Start) (b : Bool) → IsBest P c one
    → IsBest Q c other → b ≡ comes_before other one → s ≡ cond b other one → IsBest (λ p. P p ⊎ Q p) c s
best_of_two s h7 h k e f = grind (arith, before, best_known, ⊎_elim, ahead_of, not_before)
