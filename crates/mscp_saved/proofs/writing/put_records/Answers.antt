use Rattle.mscp_saved.proofs.Common.{sym, arith, waiting_bytes, written_more}
use Rattle.mscp_saved.proofs.writing.put_records.Goals as goal

pub loop-place-preserved : goal.loop-place-preserved
loop-place-preserved c = record {
  items = written_more
      waiting_bytes c.args.out.now.items c.args.records.now c.loop-place.place c.record_at.result c.record_at.result
      c.loop-place-test.true (sym c.record_at.ensures) c.loop-place.invariant.items c.put_waiting.ensures.items;
  len = omega (arith, c.loop-place.invariant.len, c.put_waiting.ensures.len);
}
