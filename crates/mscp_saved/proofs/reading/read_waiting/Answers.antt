use Rattle.mscp_saved.proofs.Common.{arith, waiting_in}
use Rattle.mscp_saved.proofs.PartsRead.{part_more}
use Rattle.mscp_saved.proofs.reading.read_waiting.Goals as goal

pub loop-place-preserved : goal.loop-place-preserved
loop-place-preserved c = record {
  items = part_more waiting_in 41 c.loop-place.place
      c.args.b.now c.args.waiting.now.items
      c.loop-place.invariant.items c.part.ensures.value c.waiting_in.ensures c.push.ensures.items;
  len = omega (arith, c.loop-place.invariant.len, c.push.ensures.len);
}
