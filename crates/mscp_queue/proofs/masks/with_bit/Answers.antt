use Rattle.mscp_queue.proofs.Basics.{arith, bit_at_set_same, bit_at_set_other, bit_at_clear_same, bit_at_clear_other, and_le_l, after_bit}
use Rattle.mscp_queue.proofs.masks.with_bit.Goals as goal

pub returns-then-on-clause-set : goal.returns-then-on-clause-set
returns-then-on-clause-set c = search (arith, after_bit, bit_at_set_same, bit_at_set_other)

pub returns-else-on : goal.returns-else-on
returns-else-on c = search (arith, after_bit, bit_at_clear_same, bit_at_clear_other, and_le_l)
