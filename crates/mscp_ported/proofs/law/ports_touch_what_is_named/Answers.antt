use Rattle.mscp_ported.proofs.Common.{arith}
use Rattle.mscp_ported.proofs.Naming.Whole.{touches_what_is_named}
use Rattle.mscp_ported.proofs.law.ports_touch_what_is_named.Goals as goal

pub returns : goal.returns
returns g c = search (arith, touches_what_is_named)
