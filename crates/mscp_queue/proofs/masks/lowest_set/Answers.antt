use Rattle.mscp_queue.proofs.Basics.{◌⊎◌, inl, inr, ◌≡◌, ◌≢◌, ◌<◌, ℕ, ap, ◌∙◌, arith, w64, bit_at, trailing_zeros, trailing_of_zero, bit_at-trailing_zeros, bit_at-zero, same_or}
use Rattle.mscp_queue.proofs.masks.lowest_set.Goals as goal

-- the lowest bit that is set, of a mask that may have none
lowest : (m : ℕ) → m < 18446744073709551616 → (m ≡ 0) ⊎ (m ≢ 0) → (trailing_zeros w64 m < 64
    → bit_at m (trailing_zeros w64 m) ≡ 1) × ((k : ℕ) → k < trailing_zeros w64 m → bit_at m k ≡ 0)
lowest m small (inl e) =
    let last : trailing_zeros w64 m ≡ 64 = ap (trailing_zeros w64) e ∙ trailing_of_zero 64 in
    (λ l. absurd (omega (arith, l, last)), λ k l. ap (λ n. bit_at n k) e ∙ bit_at-zero k)
lowest m small (inr f) =
    let t = bit_at-trailing_zeros w64 m (positive m f) small in (λ l. t.1, t.2)
  where
    positive : (m : ℕ) → m ≢ 0 → 0 < m
    positive m h = grind (arith, h)

pub returns-then-lowest-lt64-clause-some : goal.returns-then-lowest-lt64-clause-some
returns-then-lowest-lt64-clause-some c = search (arith, lowest, same_or)

pub returns-else-lowest-lt64-clause-none : goal.returns-else-lowest-lt64-clause-none
returns-else-lowest-lt64-clause-none c = search (arith, lowest, same_or)
