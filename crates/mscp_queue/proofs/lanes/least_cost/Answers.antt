use Rattle.mscp_queue.proofs.Common.{◌≡◌, get_or, subst, arith, Each1-get_or, IsLow}
use Rattle.mscp_queue.proofs.LaneParts.{bit_from}
use Rattle.mscp_queue.proofs.LaneLeasts.{low_more, low_whole, cost_of, masked}
use Rattle.mscp_queue.proofs.lanes.least_cost.Goals as goal

pub loop-block-preserved : goal.loop-block-preserved
loop-block-preserved c = search (arith, Each1-get_or, low_more, masked, bit_from)

pub returns-then-bits-eq0 : goal.returns-then-bits-eq0
returns-then-bits-eq0 c =
    search (arith, cost_of, low_whole, c.if-bits-eq0.true, c.loop-block.invariant.1, c.least_lane.ensures)

pub returns : goal.returns
returns c =
    let eight : c.loop-block.block ≡ 8 = omega (arith, c.loop-block.auto.block-end, c.loop-block-test.false) in
    cost_of c.args.costs.now c.loop-block.low c.args.mask c.least_lane-2.result
    (λ j l. subst (λ b. IsLow c.args.costs.now c.args.mask b j (get_or c.loop-block.low j 0)) eight
    (c.loop-block.invariant.1 j l)) c.least_lane-2.ensures
