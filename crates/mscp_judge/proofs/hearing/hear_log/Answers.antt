use Rattle.mscp_judge.proofs.Common.{arith, headed_gone}
use Rattle.mscp_judge.proofs.Listening.{log_behind}
use Rattle.mscp_judge.proofs.hearing.hear_log.Goals as goal

pub returns : goal.returns
returns g c = search (arith, headed_gone, log_behind)
