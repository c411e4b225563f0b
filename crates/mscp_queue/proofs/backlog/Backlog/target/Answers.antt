use Rattle.mscp_queue.proofs.Common.{arith}
use Rattle.mscp_queue.proofs.Backlogs.{long_is}
use Rattle.mscp_queue.proofs.backlog.Backlog.target.Goals as goal

pub target-requires : goal.target-requires
target-requires c = omega (arith, c.requires, long_is _ _ _ c.self.view_is)
