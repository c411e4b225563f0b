use Rattle.mscp_control.proofs.Common.{common_steps, arith}
use Rattle.mscp_control.proofs.worst_case.push_steps.Goals as goal

pub loop-after-init : goal.loop-after-init
loop-after-init g c = grind (arith, common_steps)

pub read_report-requires : goal.read_report-requires
read_report-requires g c = grind (arith, common_steps)

pub push_step-requires : goal.push_step-requires
push_step-requires g c = grind (arith, common_steps)

pub loop-after-smaller : goal.loop-after-smaller
loop-after-smaller g c = grind (arith, common_steps)

pub loop-after-preserved : goal.loop-after-preserved
loop-after-preserved g c = grind (arith, common_steps)

pub returns-clause-items : goal.returns-clause-items
returns-clause-items g c = grind (arith, common_steps)

pub returns-clause-len : goal.returns-clause-len
returns-clause-len g c = grind (arith, common_steps)

pub returns-clause-same_room : goal.returns-clause-same_room
returns-clause-same_room g c = grind (arith, common_steps)
