use Rattle.mscp_queue.proofs.LaneParts.{whole_part}
use Rattle.mscp_queue.proofs.lanes.lower_part.Goals as goal

pub returns : goal.returns
returns c = whole_part c.args.part.now c.lower_eight.result c.args.bits c.args.by c.requires.eight c.lower_eight.ensures
