use Rattle.mscp_control.proofs.Longest.Least.{the_least}
use Rattle.mscp_control.proofs.law.the_bound_is_the_least.Goals as goal

pub returns : goal.returns
returns c = λ d number valid small can. the_least d number valid small can
