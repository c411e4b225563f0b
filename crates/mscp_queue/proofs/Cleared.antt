-- One mask of many is cleared.
use Rattle.mscp_queue.proofs.Common.{◌≡◌, ◌≢◌, ◌<◌, ◌≤◌, ◌+◌, ◌/◌, ◌^◌, ◌⊎◌, ℕ, List, length, get_or, set, false, arith, length-set, bit_at, bit_at_above, get_or-set_same, get_or-set_other, IsSet}
use Rattle.std.proofs.Math.Nat.{div-lt_iff_lt-mul}
use Rattle.std.proofs.lemmas.Nat.{pow_pos}

-- the bit of slot p is cleared in the first n of 64 masks, and the others are as they were
pub record AreCleared (p n : ℕ) (old xs : List ℕ) : Type 0 where
  pub below : (k : ℕ) → k < n → IsSet false p (get_or old k 0) (get_or xs k 0)
  pub above : (k : ℕ) → n ≤ k → get_or xs k 0 ≡ get_or old k 0
  pub long : length xs ≡ 64

below_or : (s n : ℕ) → s < n + 1 → (s < n) ⊎ (s ≡ n)
below_or s n l = grind arith

module _ {p n : ℕ} {old xs : List ℕ} (r : ℕ) (room : n < 64) (was : AreCleared p n old xs)
    (new : IsSet false p (get_or xs n 0) r) where
  other : (s : ℕ) → s ≢ n → get_or (set xs n r) s 0 ≡ get_or xs s 0
  other s d = get_or-set_other xs n s r 0 d

  under : (s : ℕ) → (s < n) ⊎ (s ≡ n) → IsSet false p (get_or old s 0) (get_or (set xs n r) s 0)
  under s h2 = grind (arith, other, get_or-set_same)

  pub cleared_next : AreCleared p (n + 1) old (set xs n r)
  cleared_next = grind (arith, under, below_or, other, length-set)

-- the slots of a mask with no bit from n on are the first
low_slot : (mask n k : ℕ) → mask / 2 ^ n ≡ 0 → bit_at mask k ≡ 1 → k < n
low_slot mask n k none on = grind (arith, div-lt_iff_lt-mul, pow_pos, bit_at_above)

-- so it is enough that a bit is cleared in the first masks
pub taken_cleared : {p n : ℕ} {old xs : List ℕ} (mask k : ℕ) → AreCleared p n old xs → mask / 2 ^ n ≡ 0
    → bit_at mask k ≡ 1 → IsSet false p (get_or old k 0) (get_or xs k 0)
taken_cleared {p} {n} mask k was none on = was.below k (low_slot mask n k none on)
