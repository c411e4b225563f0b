use Rattle.mscp_queue.proofs.Common.{◌∙◌}
use Rattle.mscp_queue.proofs.Backlogs.{long_is}
use Rattle.mscp_queue.proofs.backlog.Backlog.len.Goals as goal

pub returns-clause-waiting : goal.returns-clause-waiting
returns-clause-waiting c = c.len.ensures ∙ long_is _ _ _ c.self.view_is
