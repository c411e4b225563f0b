use Rattle.mscp_saved.proofs.Common.{sym, arith, HasDriveRange, drive_bytes, each_more, written_more}
use Rattle.mscp_saved.proofs.writing.put_drives.Goals as goal

pub loop-place-preserved : goal.loop-place-preserved
loop-place-preserved c =
    let inv = c.loop-place.invariant in
    let d = c.index-drives-place.result in
    record {
      items = written_more drive_bytes c.args.out.now.items c.args.drives.now c.loop-place.place
          d d c.loop-place-test.true (sym c.index-drives-place.is) inv.items c.put_drive.ensures.items;
      len = omega (arith, inv.len, c.put_drive.ensures.len);
      range = each_more HasDriveRange c.args.drives.now c.loop-place.place
          d d c.loop-place-test.true (sym c.index-drives-place.is) inv.range c.put_drive.ensures.range;
    }
