use Rattle.mscp_c.proofs.HostHandled.{keeps_history}
use Rattle.mscp_c.proofs.law.host_handles_keep_their_history.Goals as goal

pub returns : goal.returns
returns c = keeps_history c.hosts_keep_their_history.ensures
