use Rattle.mscp_judge.proofs.Common.{arith, common_steps, filter_more, First, Name}
use Rattle.mscp_judge.proofs.starting.open.Goals as goal

-- a name past the end
abbrev past : Name
past = record { connection = First; reference = 0 }

pub loop-place-preserved : goal.loop-place-preserved
loop-place-preserved c = search (arith, filter_more, common_steps)
