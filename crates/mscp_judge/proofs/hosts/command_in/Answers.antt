use Rattle.mscp_judge.proofs.Common.{arith}
use Rattle.mscp_judge.proofs.Listening.{read_in}
use Rattle.mscp_judge.proofs.hosts.command_in.Goals as goal

pub returns : goal.returns
returns c = search (arith, read_in)
