use Rattle.mscp_queue.proofs.Common.{◌*◌}
use Rattle.mscp_queue.proofs.LaneParts.{Lowered}
use Rattle.mscp_queue.proofs.lanes.lower.Given as goal

abbrev pub invariant-loop-block : goal.invariant-loop-block
invariant-loop-block l = Lowered l.mask l.by (8 * l.block) l.fn.dues l.dues
