use Rattle.mscp_queue.proofs.Basics.{arith, held_seen}
use Rattle.mscp_queue.proofs.queue.Queue.drives.Goals as goal

pub returns : goal.returns
returns g c = search (arith, held_seen)
