-- Dues are lowered, slot by slot.
use Rattle.mscp_queue.proofs.Common.{◌≡◌, ◌<◌, ℕ, List, get_or, bit_at, lowered}

-- the slots of these bits are left, whose dues are as they were; the others are done
pub record LowersRest (mask by left : ℕ) (old new : List ℕ) : Type 0 where
  pub masked : (k : ℕ) → k < 64 → bit_at left k ≡ 1 → bit_at mask k ≡ 1
  pub kept : (k : ℕ) → k < 64 → bit_at left k ≡ 1 → get_or new k 0 ≡ get_or old k 0
  pub done : (k : ℕ) → k < 64 → bit_at left k ≡ 0 → get_or new k 0 ≡ lowered mask by k (get_or old k 0)
