use Rattle.mscp_host.proofs.Seen.{port_keeps_history}
use Rattle.mscp_host.proofs.port_law.port_hosts_keep_their_history.Goals as goal

pub returns : goal.returns
returns c = port_keeps_history
