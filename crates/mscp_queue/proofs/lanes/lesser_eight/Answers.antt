use Rattle.mscp_queue.proofs.Common.{min, sym, subst, ltb, get_or, w64, tops_compared, sel_l, HasLanes}
use Rattle.mscp_queue.proofs.LaneBits.{least_of_two}
use Rattle.mscp_queue.proofs.lanes.lesser_eight.Goals as goal

pub returns : goal.returns
returns c =
    let a = c.args.a in
    let b = c.args.b in
    subst (λ ms. HasLanes (sel_l ms a b) (λ k. min (get_or a k 0) (get_or b k 0))) (sym (tops_compared w64 ltb a b))
    (least_of_two a b c.fits-a.0 c.fits-b.0)
