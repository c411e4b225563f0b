use Rattle.mscp_queue.proofs.Common.{arith}
use Rattle.mscp_queue.proofs.Ranging.{found_above, here_from, none_above, none_in}
use Rattle.mscp_queue.proofs.ranges.Ranges.above.Goals as goal

pub loop-other-preserved : goal.loop-other-preserved
loop-other-preserved c = search (arith, none_in, here_from)

pub returns-then-there-ne0 : goal.returns-then-there-ne0
returns-then-there-ne0 c =
    found_above (omega (arith, c.loop-other.auto.other)) c.loop-other.invariant c.here-there.ensures c.if-there-ne0.true
    c.here-there.type_inv

pub returns : goal.returns
returns c = search (arith, none_above)
