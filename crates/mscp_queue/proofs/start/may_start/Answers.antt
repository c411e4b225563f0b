use Rattle.mscp_queue.proofs.Common.{arith, eq-eqb}
use Rattle.mscp_queue.proofs.Starting.{free_is, oldest_affords}
use Rattle.mscp_queue.proofs.start.may_start.Goals as goal

pub returns-then-place-eq0 : goal.returns-then-place-eq0
returns-then-place-eq0 c = search (arith, free_is, eq-eqb)

pub returns-else-place-eq0 : goal.returns-else-place-eq0
returns-else-place-eq0 c = search (arith, free_is, oldest_affords)

pub returns-else-is_free : goal.returns-else-is_free
returns-else-is_free c = search (arith, free_is)
