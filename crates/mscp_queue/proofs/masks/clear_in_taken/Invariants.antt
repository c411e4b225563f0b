use Rattle.mscp_queue.proofs.Common.{◌*◌}
use Rattle.mscp_queue.proofs.Cleared.{AreCleared}
use Rattle.mscp_queue.proofs.masks.clear_in_taken.Given as goal

abbrev pub invariant-loop-part : goal.invariant-loop-part
invariant-loop-part l = AreCleared l.slot (16 * l.part) l.fn.masks l.masks

abbrev pub invariant-loop-other : goal.invariant-loop-other
invariant-loop-other l = AreCleared l.slot l.other l.fn.masks l.masks
