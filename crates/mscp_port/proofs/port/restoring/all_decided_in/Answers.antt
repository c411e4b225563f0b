use Rattle.mscp_port.proofs.Common.{arith, part_more}
use Rattle.mscp_port.proofs.port.restoring.all_decided_in.Goals as goal

pub loop-place-preserved : goal.loop-place-preserved
loop-place-preserved c = search (arith, part_more)
