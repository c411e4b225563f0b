use Rattle.mscp_queue.proofs.Common.{arith}
use Rattle.mscp_queue.proofs.Ranging.{is_here}
use Rattle.mscp_queue.proofs.ranges.Ranges.here.Goals as goal

pub returns : goal.returns
returns c = search (arith, is_here)
