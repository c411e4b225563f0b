use Rattle.mscp_queue.proofs.Common.{arith, get_or-set_other, get_or-set_same, length-set, get_or_default}
use Rattle.mscp_queue.proofs.Masked.{same_or}
use Rattle.mscp_queue.proofs.favorites.Favorites.close.Goals as goal

pub loop-k-preserved : goal.loop-k-preserved
loop-k-preserved c = search (arith, same_or, length-set, get_or-set_other, get_or-set_same, get_or_default)
