use Rattle.mscp_queue.proofs.Common.{◌≤◌, arith, w64, Fits, get_or, Each1-get_or}
use Rattle.mscp_queue.proofs.LaneBits.{selected}
use Rattle.mscp_queue.proofs.lanes.lower_eight.Goals as goal

pub returns : goal.returns
returns c = selected _ c.args.v c.args.bits c.args.by c.fits-v.0 (λ k l h.
    let enough : c.args.by ≤ get_or c.args.v k 0 = c.requires k l h in
    let len = c.fits-v.0 in
    let fits : Fits w64 (get_or c.args.v k 0) = Each1-get_or (Fits w64) c.args.v k 0 (omega arith) c.fits-v.1 in
    omega (arith, fits.fits))
