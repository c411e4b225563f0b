use Rattle.mscp_controller.proofs.Common.{common_steps, arith}
use Rattle.mscp_controller.proofs.controller.Controller.answer_now.Goals as goal

pub answered_end-own-requires : goal.answered_end-own-requires
answered_end-own-requires g c = grind (arith, common_steps)

pub abort-aborted-requires : goal.abort-aborted-requires
abort-aborted-requires g c κs = grind (arith, common_steps)

pub end-requires-clause-free : goal.end-requires-clause-free
end-requires-clause-free g c = grind (arith, common_steps)

pub end-requires-clause-shaped : goal.end-requires-clause-shaped
end-requires-clause-shaped g c = grind (arith, common_steps)

pub returns-clause-aborted : goal.returns-clause-aborted
returns-clause-aborted g c = grind (arith, common_steps)

pub returns-clause-after : goal.returns-clause-after
returns-clause-after g c = grind (arith, common_steps)

pub returns-clause-account : goal.returns-clause-account
returns-clause-account g c = grind (arith, common_steps)
