use Rattle.mscp_queue.proofs.Lowers.{LowersRest}
use Rattle.mscp_queue.proofs.lowering.lower_each.Given as goal

abbrev pub invariant-loop-slot : goal.invariant-loop-slot
invariant-loop-slot l = LowersRest l.mask l.by l.left l.fn.dues l.dues

abbrev pub decreases-loop-slot : goal.decreases-loop-slot
decreases-loop-slot l = l.left
