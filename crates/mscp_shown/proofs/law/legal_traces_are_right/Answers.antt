use Rattle.mscp_shown.proofs.Moments.{are_right}
use Rattle.mscp_shown.proofs.law.legal_traces_are_right.Goals as goal

pub returns : goal.returns
returns c = are_right
