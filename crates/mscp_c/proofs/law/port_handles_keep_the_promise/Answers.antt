use Rattle.mscp_c.proofs.PortHandled.{keeps_promise}
use Rattle.mscp_c.proofs.law.port_handles_keep_the_promise.Goals as goal

pub returns : goal.returns
returns c = λ made start h answered. keeps_promise made start h answered
