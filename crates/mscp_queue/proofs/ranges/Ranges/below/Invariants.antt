use Rattle.mscp_queue.proofs.Common.{◌<◌, ◌+◌, ℕ, IsIn, range_at}
use Rattle.mscp_queue.proofs.ranges.Ranges.below.Given as goal

abbrev pub invariant-loop-down : goal.invariant-loop-down
invariant-loop-down l = (k : ℕ) → IsIn l.mask k → range_at l.self k < l.range → range_at l.self k + l.down < l.range
