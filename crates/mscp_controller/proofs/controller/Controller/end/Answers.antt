use Rattle.mscp_controller.proofs.Common.{common_steps, arith}
use Rattle.mscp_controller.proofs.controller.Controller.end.Goals as goal

pub end-requires : goal.end-requires
end-requires g c = grind (arith, common_steps)

pub invariant_of-self : goal.invariant_of-self
invariant_of-self g c = grind (arith, common_steps)

pub returns-clause-after : goal.returns-clause-after
returns-clause-after g c = grind (arith, common_steps)

pub returns-clause-account : goal.returns-clause-account
returns-clause-account g c = grind (arith, common_steps)
