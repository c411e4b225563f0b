use Rattle.mscp_host.proofs.Common.{arith}
use Rattle.mscp_host.proofs.restoring.poll_in.Goals as goal

pub returns : goal.returns
returns c = search arith
