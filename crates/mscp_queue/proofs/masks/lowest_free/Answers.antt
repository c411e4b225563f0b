use Rattle.mscp_queue.proofs.Basics.{w64, sym, subst, trailing_ones, bit_at-trailing_ones, IsLowestFree, not_last}
use Rattle.mscp_queue.proofs.masks.lowest_free.Goals as goal

pub returns : goal.returns
returns c =
    let m = c.args.mask in
    let t = bit_at-trailing_ones w64 m (not_last m c.ranges.mask.fits c.requires) in
    let here : IsLowestFree m (trailing_ones w64 m) = record { low = t.0; free = t.1; taken = t.2 } in
    subst (λ p. IsLowestFree m p) (sym c.trailing_ones.ensures) here
