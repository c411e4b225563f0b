use Rattle.mscp_host.proofs.Counted.{keeps_count}
use Rattle.mscp_host.proofs.port_law.port_hosts_keep_count.Goals as goal

pub returns : goal.returns
returns c = keeps_count
