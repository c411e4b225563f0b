use Rattle.mscp_queue.proofs.Common.{arith, cases_lt, get_or-set_other, get_or-set_same, length-set}
use Rattle.mscp_queue.proofs.Swept.{cost_at}
use Rattle.mscp_queue.proofs.picker.fill_row.Goals as goal

pub loop-place-preserved : goal.loop-place-preserved
loop-place-preserved c = grind (arith, cases_lt, cost_at, get_or-set_other, get_or-set_same, length-set)
