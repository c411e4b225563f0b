use Rattle.mscp_port.proofs.Common.{refl, arith, each_more, written_more, HasVolumeRange, volume_bytes}
use Rattle.mscp_port.proofs.port.saving.put_volumes.Goals as goal

pub loop-volume-preserved : goal.loop-volume-preserved
loop-volume-preserved c =
    let inv = c.loop-volume.invariant in
    let xs = c.args.volumes.now in
    let i = c.loop-volume.volume-index in
    let l = c.loop-volume-test.true in
    record {
      items = written_more volume_bytes c.args.out.now.items xs i _ _ l refl inv.items c.put_volume.ensures.items;
      len = omega (arith, inv.len, c.put_volume.ensures.len);
      range = each_more HasVolumeRange xs i _ _ l refl inv.range c.put_volume.ensures.range;
    }
