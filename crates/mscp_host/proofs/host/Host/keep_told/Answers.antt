use Rattle.mscp_host.proofs.Common.{arith}
use Rattle.mscp_host.proofs.Watched.{watched_told}
use Rattle.mscp_host.proofs.Told.{polled_oldest, told_told, waiting_told}
use Rattle.mscp_host.proofs.Apart.{apart_told, refilled, told_long}
use Rattle.mscp_host.proofs.host.Host.keep_told.Goals as goal

pub invariant_of-self : goal.invariant_of-self
invariant_of-self c =
    search (arith, refilled, polled_oldest, told_long, waiting_told, apart_told, watched_told, told_told)
