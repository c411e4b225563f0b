use Rattle.mscp_queue.proofs.Common.{◌<◌, ◌≤◌, ℕ, IsIn, range_at}
use Rattle.mscp_queue.proofs.ranges.Ranges.above.Given as goal

abbrev pub invariant-loop-other : goal.invariant-loop-other
invariant-loop-other l = (k : ℕ) → IsIn l.mask k → l.range < range_at l.self k → l.other ≤ range_at l.self k
