use Rattle.mscp_host.proofs.Common.{arith}
use Rattle.mscp_host.proofs.Apart.{apart_without}
use Rattle.mscp_host.proofs.Told.{told_without, waiting_without}
use Rattle.mscp_host.proofs.Watched.{watched_without}
use Rattle.mscp_host.proofs.host.Host.hear.Goals as goal

pub invariant_of-self : goal.invariant_of-self
invariant_of-self c = search (arith, waiting_without, apart_without, watched_without, told_without)
