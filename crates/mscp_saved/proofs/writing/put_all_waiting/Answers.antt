use Rattle.mscp_saved.proofs.Common.{◌<◌, length, sym, arith, no_record, HasWaitingRange, waiting_bytes, each_more, written_more}
use Rattle.mscp_saved.proofs.writing.put_all_waiting.Goals as goal

pub loop-place-preserved : goal.loop-place-preserved
loop-place-preserved g c =
    let inv = c.loop-place.invariant in
    let rs = c.args.controller.now.waiting in
    let i = c.loop-place.place in
    let r = c.record.result in
    let l : i < length rs = omega (arith, c.loop-place-test.true, c.len-place-end.ensures) in
    record {
      items = written_more waiting_bytes
          c.args.out.now.items rs i r no_record l (sym c.record.ensures) inv.items c.put_waiting.ensures.items;
      len = omega (arith, inv.len, c.put_waiting.ensures.len);
      range = each_more HasWaitingRange rs i r no_record l (sym c.record.ensures) inv.range c.put_waiting.ensures.range;
    }
