use Rattle.mscp_script.proofs.Common.{arith}
use Rattle.mscp_script.proofs.Growing.{ran_on}
use Rattle.mscp_script.proofs.running.Run.send.Goals as goal

pub returns-clause-ran : goal.returns-clause-ran
returns-clause-ran g c = search (arith, ran_on)
