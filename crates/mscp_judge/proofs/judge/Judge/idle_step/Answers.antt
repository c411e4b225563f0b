use Rattle.mscp_judge.proofs.Common.{arith}
use Rattle.mscp_judge.proofs.Coming.{idle_came}
use Rattle.mscp_judge.proofs.judge.Judge.idle_step.Goals as goal

pub returns-clause-came : goal.returns-clause-came
returns-clause-came g c = search (arith, idle_came)
