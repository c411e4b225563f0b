use Rattle.mscp_port.proofs.Common.{arith}
use Rattle.mscp_port.proofs.Known.{none_returned, unsettled}
use Rattle.mscp_port.proofs.port.Port.went.Goals as goal

pub returns-in-Settle : goal.returns-in-Settle
returns-in-Settle g c = search (arith, unsettled, none_returned)
