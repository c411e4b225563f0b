use Rattle.mscp_queue.proofs.Basics.{arith, mapped_more}
use Rattle.mscp_queue.proofs.drive.renew_drives.Goals as goal

pub loop-drive-preserved : goal.loop-drive-preserved
loop-drive-preserved c = search (arith, mapped_more)
