use Rattle.mscp_queue.proofs.Common.{kinds, targets}
use Rattle.mscp_queue.proofs.Seeking.{Seeks}
use Rattle.mscp_queue.proofs.slots.Slots.favorite.Given as goal

abbrev pub invariant-loop-slot : goal.invariant-loop-slot
invariant-loop-slot l =
    Seeks l.at l.drive l.self-inside.order.items (kinds l.self) (targets l.self) l.near l.left l.best l.least

abbrev pub decreases-loop-slot : goal.decreases-loop-slot
decreases-loop-slot l = l.left
