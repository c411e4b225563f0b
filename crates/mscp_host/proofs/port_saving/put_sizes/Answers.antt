use Rattle.mscp_host.proofs.Common.{HasAskedRange, arith, each_more, refl, size_bytes, written_more}
use Rattle.mscp_host.proofs.port_saving.put_sizes.Goals as goal

pub loop-asked-preserved : goal.loop-asked-preserved
loop-asked-preserved c =
    let inv = c.loop-asked.invariant in
    let xs = c.args.commands.now in
    let i = c.loop-asked.asked-index in
    let l = c.loop-asked-test.true in
    record {
      items = written_more size_bytes c.args.out.now.items xs i _ _ l refl inv.items c.put_size.ensures.items;
      len = omega (arith, inv.len, c.put_size.ensures.len);
      range = each_more HasAskedRange xs i _ _ l refl inv.range c.put_size.ensures.range;
    }
