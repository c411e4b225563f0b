use Rattle.mscp_queue.proofs.Common.{arith}
use Rattle.mscp_queue.proofs.Ranging.{ranged_set}
use Rattle.mscp_queue.proofs.ranges.Ranges.set.Goals as goal

pub invariant_of-self : goal.invariant_of-self
invariant_of-self c = search (arith, ranged_set)
