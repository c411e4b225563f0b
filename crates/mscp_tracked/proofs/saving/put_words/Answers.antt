use Rattle.mscp_tracked.proofs.Common.{arith, ◌<◌, ◌^◌, each_more, little_bytes, written_more, get_or, refl}
use Rattle.mscp_tracked.proofs.saving.put_words.Goals as goal

pub loop-place-preserved : goal.loop-place-preserved
loop-place-preserved c =
    let inv = c.loop-place.invariant in
    let word = get_or c.args.words.now c.loop-place.place 0 in
    record {
      items = written_more (little_bytes 8) c.args.out.now.items c.args.words.now c.loop-place.place
          word 0 c.loop-place-test.true refl inv.items c.put_eight.ensures.items;
      len = omega (arith, inv.len, c.put_eight.ensures.len);
      range = each_more (λ w. w < 2 ^ 64) c.args.words.now c.loop-place.place
          word 0 c.loop-place-test.true refl inv.range (omega (arith, c.type_inv.words c.loop-place.place));
    }
