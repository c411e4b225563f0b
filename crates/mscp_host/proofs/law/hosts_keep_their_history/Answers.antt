use Rattle.mscp_host.proofs.Promised.{keeps_history}
use Rattle.mscp_host.proofs.law.hosts_keep_their_history.Goals as goal

pub returns : goal.returns
returns c = keeps_history
