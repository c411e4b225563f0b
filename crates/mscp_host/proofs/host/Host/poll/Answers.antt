use Rattle.mscp_host.proofs.Common.{arith}
use Rattle.mscp_host.proofs.Watched.{was_submitted, watched_poll}
use Rattle.mscp_host.proofs.host.Host.poll.Goals as goal

pub invariant_of-self : goal.invariant_of-self
invariant_of-self c = search (arith, was_submitted, watched_poll)
