use Rattle.mscp_ported.proofs.Common.{arith}
use Rattle.mscp_ported.proofs.Naming.Put.{touches_what_was_put}
use Rattle.mscp_ported.proofs.law.ports_touch_what_was_put.Goals as goal

pub returns : goal.returns
returns g c = search (arith, touches_what_was_put)
