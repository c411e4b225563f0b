use Rattle.mscp_c.proofs.Handled.{keeps_promise}
use Rattle.mscp_c.proofs.law.handles_keep_the_promise.Goals as goal

pub returns : goal.returns
returns c = keeps_promise c.args.policy c.controllers_keep_the_promise.ensures
