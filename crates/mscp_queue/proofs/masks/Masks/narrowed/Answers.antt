use Rattle.mscp_queue.proofs.Common.{refl, arith}
use Rattle.mscp_queue.proofs.Fronts.{less_left, narrowed_all, narrows_first, narrows_more}
use Rattle.mscp_queue.proofs.masks.Masks.narrowed.Goals as goal

pub loop-slot-init : goal.loop-slot-init
loop-slot-init c = narrows_first _ _ refl refl

pub loop-slot-preserved : goal.loop-slot-preserved
loop-slot-preserved c = narrows_more c.in-Some.slot
    c.with_bit-left.result c.with_bit-narrowed.result _ c.loop-slot.invariant c.in-Some.ensures.some.0
    c.in-Some.ensures.some.1 c.with_bit-left.ensures.set c.with_bit-narrowed.ensures.set refl

pub loop-slot-smaller : goal.loop-slot-smaller
loop-slot-smaller c = search (arith, less_left)

pub returns : goal.returns
returns c = narrowed_all c.loop-slot.invariant c.in_default.ensures.none
