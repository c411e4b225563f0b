use Rattle.mscp_saved.proofs.Common.{arith, end_in}
use Rattle.mscp_saved.proofs.PartsRead.{part_more}
use Rattle.mscp_saved.proofs.reading.read_ends.Goals as goal

pub loop-place-preserved : goal.loop-place-preserved
loop-place-preserved c = record {
  items = part_more end_in 48 c.loop-place.place
      c.args.b.now c.args.ends.now.items
      c.loop-place.invariant.items c.part.ensures.value c.end_in.ensures c.push.ensures.items;
  len = omega (arith, c.loop-place.invariant.len, c.push.ensures.len);
}
