use Rattle.mscp_queue.proofs.Common.{◌<◌, ℕ, slice_index, length, ◌≡◌, IsLow}
use Rattle.mscp_queue.proofs.lanes.least_cost.Given as goal

abbrev pub invariant-loop-block : goal.invariant-loop-block
invariant-loop-block l = (length l.low ≡ 8) × ((j : ℕ) → j < 8 → IsLow l.costs l.mask l.block j (slice_index l.low j))
