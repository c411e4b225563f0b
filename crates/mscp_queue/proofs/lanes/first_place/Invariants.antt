use Rattle.mscp_queue.proofs.Common.{◌≡◌, ◌≢◌, ◌<◌, ◌*◌, ℕ, slice_index, bit_at}
use Rattle.mscp_queue.proofs.lanes.first_place.Given as goal

abbrev pub invariant-loop-block : goal.invariant-loop-block
invariant-loop-block l = (k : ℕ) → k < 8 * l.block → bit_at l.mask k ≡ 1 → slice_index l.costs k ≢ l.number
