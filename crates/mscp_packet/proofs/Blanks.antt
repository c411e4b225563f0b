-- A message that stays the same when each place in no field is set to 0 is zero there.
use Rattle.mscp_packet.proofs.Common.{◌≡◌, ℕ, zero, suc, ◌<◌, Bool, false, cond, List, [], ◌∷◌, length, ap, arith, slice_index, Field, is_named, IsZeroBeside}

-- the list with 0 at each place that the test doesn't name
abbrev pub blank : (ℕ → Bool) → List ℕ → List ℕ
blank named [] = []
blank named (x ∷ xs) = cond (named 0) x 0 ∷ blank (λ k. named (suc k)) xs

blank_index : (named : ℕ → Bool) (xs : List ℕ) (k : ℕ)
    → k < length xs → named k ≡ false → slice_index (blank named xs) k ≡ 0
blank_index named [] k h e = absurd (omega arith)
blank_index named (x ∷ xs) zero h e = ap (λ b. cond b x 0) e
blank_index named (x ∷ xs) (suc k) h e = blank_index (λ k. named (suc k)) xs k (omega arith) e

pub zero_beside : (fields : List Field) (b : List ℕ) → b ≡ blank (is_named fields) b → IsZeroBeside fields b
zero_beside fields b same = search (arith, blank_index, is_named)
