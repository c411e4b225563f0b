use Rattle.std.proofs.Common.{arith}
use Rattle.mscp_wire.proofs.Tagged.{all_made, none_made, one_made}
use Rattle.mscp_wire.proofs.tags.tag_all.Goals as goal

pub loop-at-init : goal.loop-at-init
loop-at-init g c = none_made c.args.cells.now c.args.tags.now.items c.requires

pub loop-at-preserved : goal.loop-at-preserved
loop-at-preserved g c =
    one_made c.args.cells.now c.loop-at.tags.items c.loop-at.at c.tag_if.result
    (omega (arith, c.loop-at-test.true)) c.loop-at.invariant
    c.tag_if.ensures

pub returns : goal.returns
returns g c =
    all_made c.args.cells.now c.loop-at.tags.items c.loop-at.at c.loop-at-test.false c.loop-at.invariant
