use Rattle.mscp_tracked.proofs.Common.{[], arith, part_more, word_in}
use Rattle.mscp_tracked.proofs.saving.words_in.Goals as goal

pub loop-place-preserved : goal.loop-place-preserved
loop-place-preserved c = record {
  items = part_more word_in 8 c.loop-place.place
      c.args.b.now [] c.loop-place.invariant.items c.part.ensures.value c.eight_at.ensures c.push.ensures.items;
  len = omega (arith, c.loop-place.invariant.len, c.push.ensures.len);
}
