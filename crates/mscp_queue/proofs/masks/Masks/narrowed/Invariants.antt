use Rattle.mscp_queue.proofs.Fronts.{Narrows}
use Rattle.mscp_queue.proofs.masks.Masks.narrowed.Given as goal

abbrev pub invariant-loop-slot : goal.invariant-loop-slot
invariant-loop-slot l = Narrows l.drive l.self l.unit l.left l.narrowed

abbrev pub decreases-loop-slot : goal.decreases-loop-slot
decreases-loop-slot l = l.left
