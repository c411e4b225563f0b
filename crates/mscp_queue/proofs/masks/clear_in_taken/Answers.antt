use Rattle.std.proofs.Math.Nat.{div-eq_of_lt}
use Rattle.mscp_queue.proofs.Common.{◌≡◌, ◌*◌, arith, subst}
use Rattle.mscp_queue.proofs.Cleared.{AreCleared, cleared_next, taken_cleared}
use Rattle.mscp_queue.proofs.masks.clear_in_taken.Goals as goal

pub loop-other-preserved : goal.loop-other-preserved
loop-other-preserved c = cleared_next c.with_bit.result (omega (arith, c.loop-other-test.true, c.loop-part-test.true))
    c.loop-other.invariant c.with_bit.ensures.set

pub returns-then-taken-part-eq0 : goal.returns-then-taken-part-eq0
returns-then-taken-part-eq0 c = λ k on. taken_cleared c.args.taken k c.loop-part.invariant c.if-taken-part-eq0.true on

pub returns : goal.returns
returns c =
    let e : 16 * c.loop-part.part ≡ 64 = omega (arith, c.loop-part-test.false, c.loop-part.auto.part-end) in
    λ k on. taken_cleared c.args.taken k
    (subst (λ n. AreCleared c.args.slot n c.args.masks.now c.loop-part.masks) e c.loop-part.invariant)
    (div-eq_of_lt c.ranges.taken.fits) on
