use Rattle.mscp_c.proofs.DriverHandled.{keeps_history}
use Rattle.mscp_c.proofs.law.driver_handles_keep_their_history.Goals as goal

pub returns : goal.returns
returns c = keeps_history c.port_hosts_keep_their_history.ensures c.port_hosts_keep_count.ensures
