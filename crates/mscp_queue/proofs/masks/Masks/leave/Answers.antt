use Rattle.mscp_queue.proofs.Common.{arith, get_or-set_other, get_or-set_same}
use Rattle.mscp_queue.proofs.masks.Masks.leave.Goals as goal

pub returns : goal.returns
returns c = search (arith, get_or-set_other, get_or-set_same)
