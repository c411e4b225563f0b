use Rattle.mscp_queue.proofs.Common.{arith}
use Rattle.mscp_queue.proofs.Upcomings.{told_at}
use Rattle.mscp_queue.proofs.queue.Queue.begin_at.Goals as goal

pub returns : goal.returns
returns g c = search (arith, told_at)
