use Rattle.mscp_host.proofs.Common.{arith}
use Rattle.mscp_host.proofs.Places.{nowhere, told_at}
use Rattle.mscp_host.proofs.outstanding.set_told.Goals as goal

pub returns-in-Some : goal.returns-in-Some
returns-in-Some c = search (arith, told_at)

pub returns-in_default : goal.returns-in_default
returns-in_default c = search (arith, nowhere)
