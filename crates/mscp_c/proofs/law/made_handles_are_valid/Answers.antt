use Rattle.mscp_c.proofs.Common.{ap}
use Rattle.mscp_memory.specs.ControllerHandles.{with_held}
use Rattle.mscp_c.proofs.law.made_handles_are_valid.Goals as goal

pub returns-clause-same : goal.returns-clause-same
returns-clause-same c = ap (with_held c.args.handle.now) c.lend.ensures.value
