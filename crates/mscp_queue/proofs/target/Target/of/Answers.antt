use Rattle.mscp_queue.proofs.Basics.{arith, target_made}
use Rattle.mscp_queue.proofs.target.Target.of.Goals as goal

pub returns : goal.returns
returns c = search (arith, target_made)
