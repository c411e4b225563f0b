use Rattle.mscp_wire.proofs.Common.{ap, arith, length, length-set, option_map, sents, tells, ◌∙◌}
use Rattle.mscp_wire.proofs.Placed.{over_all, over_more, sents_map}
use Rattle.mscp_wire.proofs.polls.tell_all.Goals as goal

pub loop-at-preserved : goal.loop-at-preserved
loop-at-preserved g c =
    let xs = c.args.cells.now in
    let ys = c.loop-at.cells in
    record {
      many = ap length c.tell_in.ensures ∙ (length-set ys c.loop-at.at _ ∙ c.loop-at.invariant.many);
      cells =
          over_more (option_map (tells c.args.name.0 c.args.name.1 c.args.figure c.args.time)) xs ys _ c.loop-at.at
          (omega (arith, c.loop-at-test.true, c.len-at-end.ensures.count)) c.loop-at.invariant.many
          c.loop-at.invariant.cells c.tell_in.ensures;
    }

pub returns : goal.returns
returns g c =
    let xs = c.args.cells.now in
    let f = tells c.args.name.0 c.args.name.1 c.args.figure c.args.time in
    ap sents (c.loop-at.invariant.cells ∙ over_all (option_map f) xs c.loop-at.at
    (omega (arith, c.loop-at-test.false, c.len-at-end.ensures.count))) ∙ sents_map f xs
