use Rattle.mscp_saved.proofs.Common.{arith, drive_in}
use Rattle.mscp_saved.proofs.PartsRead.{part_more}
use Rattle.mscp_saved.proofs.reading.read_drives.Goals as goal

pub loop-place-preserved : goal.loop-place-preserved
loop-place-preserved c = record {
  items = part_more drive_in 34 c.loop-place.place
      c.args.b.now c.args.drives.now.items
      c.loop-place.invariant.items c.part.ensures.value c.drive_in.ensures c.push.ensures.items;
  len = omega (arith, c.loop-place.invariant.len, c.push.ensures.len);
}
