use Rattle.mscp_queue.proofs.Common.{arith}
use Rattle.mscp_queue.proofs.Ranging.{found_below, here_from, none_below, none_in}
use Rattle.mscp_queue.proofs.ranges.Ranges.below.Goals as goal

pub loop-down-preserved : goal.loop-down-preserved
loop-down-preserved c = search (arith, none_in, here_from)

pub returns-then-there-ne0 : goal.returns-then-there-ne0
returns-then-there-ne0 c =
    found_below (omega (arith, c.loop-down-test.true))
    (λ k x a. let l = c.loop-down.invariant k x a in omega (arith, l))
    c.here-there.ensures c.if-there-ne0.true c.here-there.type_inv

pub returns : goal.returns
returns c = none_below (λ k x a. let l = c.loop-down.invariant k x a in omega (arith, l, c.loop-down-test.false))
