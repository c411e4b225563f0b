use Rattle.mscp_ported.proofs.Common.{arith}
use Rattle.mscp_ported.proofs.Credits.{has_credit}
use Rattle.mscp_ported.proofs.law.ports_have_credit.Goals as goal

pub returns : goal.returns
returns g c = search (arith, has_credit)
