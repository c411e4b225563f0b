use Rattle.mscp_queue.proofs.Common.{arith}
use Rattle.mscp_queue.proofs.Backlogs.{long_is, unfenced_kinds}
use Rattle.mscp_queue.proofs.backlog.Backlog.is_free.Goals as goal

pub is_free-requires : goal.is_free-requires
is_free-requires c = omega (arith, c.requires, long_is _ _ _ c.self.view_is)

pub returns : goal.returns
returns c = search (arith, unfenced_kinds, long_is)
