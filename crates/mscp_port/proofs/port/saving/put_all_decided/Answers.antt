use Rattle.mscp_port.proofs.Common.{refl, arith, each_more, written_more, HasDecidedRange, decided_bytes}
use Rattle.mscp_port.proofs.port.saving.put_all_decided.Goals as goal

pub loop-decided-preserved : goal.loop-decided-preserved
loop-decided-preserved c =
    let inv = c.loop-decided.invariant in
    let xs = c.args.all.now in
    let i = c.loop-decided.decided-index in
    let l = c.loop-decided-test.true in
    record {
      items = written_more decided_bytes c.args.out.now.items xs i _ _ l refl inv.items c.put_decided.ensures.items;
      len = omega (arith, inv.len, c.put_decided.ensures.len);
      range = each_more HasDecidedRange xs i _ _ l refl inv.range c.put_decided.ensures.range;
    }
