use Rattle.mscp_queue.proofs.Common.{◌<◌, ◌^◌, ◌*◌, ◌/◌, bit_and, arith, and_le_l}
use Rattle.mscp_queue.proofs.LaneLeasts.{first_of, none_more}
use Rattle.mscp_queue.proofs.lanes.first_place.Goals as goal

pub returns-then-hits-ne0-clause-some : goal.returns-then-hits-ne0-clause-some
returns-then-hits-ne0-clause-some c =
    let e = c.equal_eight.ensures in
    let and_small : bit_and c.equal_eight.result (c.args.mask / 2 ^ (8 * c.loop-block.block)) < 2 ^ 64 =
    omega (arith, and_le_l c.equal_eight.result (c.args.mask / 2 ^ (8 * c.loop-block.block)), c.equal_eight.type_inv) in
    first_of c.args.costs.now
    c.block_of.result c.args.mask c.loop-block.block c.args.number c.equal_eight.result c.block_of.ensures.each
    e.only e.equal e.each c.loop-block.invariant c.if-hits-ne0.true and_small c.loop-block-test.true

pub loop-block-preserved : goal.loop-block-preserved
loop-block-preserved c =
    let e = c.equal_eight.ensures in
    none_more c.args.costs.now c.block_of.result c.args.mask c.loop-block.block c.args.number c.equal_eight.result
    c.block_of.ensures.each e.only e.equal e.each c.loop-block.invariant c.if-hits-ne0.false
