use Rattle.mscp_judge.proofs.Common.{arith}
use Rattle.mscp_judge.proofs.judging.judge_lines.Goals as goal

pub returns-in-Some : goal.returns-in-Some
returns-in-Some g c = search arith
