use Rattle.mscp_queue.proofs.Basics.{arith, position_any}
use Rattle.mscp_queue.proofs.queue.Queue.contains.Goals as goal

pub returns : goal.returns
returns g c = search (arith, position_any)
