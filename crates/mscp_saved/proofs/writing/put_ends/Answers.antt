use Rattle.mscp_saved.proofs.Common.{sym, arith, HasEndRange, end_cell, each_more, written_more}
use Rattle.mscp_saved.proofs.writing.put_ends.Goals as goal

pub loop-place-preserved : goal.loop-place-preserved
loop-place-preserved c =
    let inv = c.loop-place.invariant in
    let d = c.end_at.result in
    record {
      items = written_more end_cell c.args.out.now.items c.args.ends.now
          c.loop-place.place d d c.loop-place-test.true (sym c.end_at.ensures) inv.items c.put_end.ensures.items;
      len = omega (arith, inv.len, c.put_end.ensures.len);
      range = each_more HasEndRange c.args.ends.now
          c.loop-place.place d d c.loop-place-test.true (sym c.end_at.ensures) inv.range c.put_end.ensures.range;
    }
