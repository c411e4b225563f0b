use Rattle.mscp_judge.proofs.Common.{arith}
use Rattle.mscp_judge.proofs.Leading.{follow}
use Rattle.mscp_judge.proofs.Hindered.{all_open, none_open}
use Rattle.mscp_judge.proofs.starting.starts.Goals as goal

pub returns-in-Some : goal.returns-in-Some
returns-in-Some c = search (arith, none_open, follow, c.new.ensures, c.in-Some.ensures.some)

pub returns-in-None : goal.returns-in-None
returns-in-None c = search (arith, all_open, follow)
