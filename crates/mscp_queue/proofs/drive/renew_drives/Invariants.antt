use Rattle.mscp_queue.proofs.Common.{◌≡◌, ◌++◌, map, take, drop, Drive, fresh_drive}
use Rattle.mscp_queue.proofs.drive.renew_drives.Given as goal

abbrev pub invariant-loop-drive : goal.invariant-loop-drive
invariant-loop-drive l = l.drives ≡ map (λ (d : Drive). fresh_drive d.unit) (take l.drive-index l.fn.drives)
    ++ drop l.drive-index l.fn.drives
