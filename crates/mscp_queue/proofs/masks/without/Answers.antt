use Rattle.mscp_queue.proofs.Common.{arith, bit_at_and, bit_at_not}
use Rattle.mscp_queue.proofs.masks.without.Goals as goal

pub returns : goal.returns
returns c = search (arith, bit_at_and, bit_at_not)
