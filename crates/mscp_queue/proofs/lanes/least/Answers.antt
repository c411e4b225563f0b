use Rattle.mscp_queue.proofs.Common.{arith}
use Rattle.mscp_queue.proofs.LaneLeasts.{none_if, some_if}
use Rattle.mscp_queue.proofs.lanes.least.Goals as goal

pub returns-clause-none : goal.returns-clause-none
returns-clause-none c = search (arith, none_if)

pub returns-clause-some : goal.returns-clause-some
returns-clause-some c = search (arith, some_if)
