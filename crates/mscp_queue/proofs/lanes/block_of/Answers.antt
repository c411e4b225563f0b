use Rattle.mscp_queue.proofs.Common.{arith, length-chunk, get_or-chunk}
use Rattle.mscp_queue.proofs.LaneParts.{at_mid, mid_long}
use Rattle.mscp_queue.proofs.lanes.block_of.Goals as goal

pub returns : goal.returns
returns c = search (arith, mid_long, length-chunk, get_or-chunk, at_mid)
