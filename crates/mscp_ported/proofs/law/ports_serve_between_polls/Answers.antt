use Rattle.mscp_ported.proofs.Common.{arith}
use Rattle.mscp_ported.proofs.Fair.{serves_between_polls}
use Rattle.mscp_ported.proofs.law.ports_serve_between_polls.Goals as goal

pub returns : goal.returns
returns g c = search (arith, serves_between_polls)
