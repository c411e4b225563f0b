use Rattle.mscp_queue.proofs.LaneBits.{all_kept, kept}
use Rattle.mscp_queue.proofs.lanes.masked_eight.Goals as goal

pub returns-then-bits-eq255 : goal.returns-then-bits-eq255
returns-then-bits-eq255 c = all_kept c.args.v c.args.bits 18446744073709551615 c.fits-v.0 c.if-bits-eq255.true

pub returns : goal.returns
returns c = kept c.args.v c.args.bits 18446744073709551615 c.fits-v.0
