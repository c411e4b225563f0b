use Rattle.mscp_queue.proofs.Basics.{arith, lowered_none}
use Rattle.mscp_queue.proofs.Fallen.{enough_all, lowered_all}
use Rattle.mscp_queue.proofs.slots.Slots.lower_all.Goals as goal

pub lower-requires : goal.lower-requires
lower-requires c = search (arith, enough_all)

pub returns-then-by-gt0 : goal.returns-then-by-gt0
returns-then-by-gt0 c = search (arith, lowered_all)

pub returns-else-by-gt0 : goal.returns-else-by-gt0
returns-else-by-gt0 c = lowered_none c.args.by c.args.self.now (omega (arith, c.if-by-gt0.false))
