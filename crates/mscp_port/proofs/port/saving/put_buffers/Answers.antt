use Rattle.mscp_port.proofs.Common.{refl, arith, each_more, written_more, HasBufferRange, buffer_bytes}
use Rattle.mscp_port.proofs.port.saving.put_buffers.Goals as goal

pub loop-buffer-preserved : goal.loop-buffer-preserved
loop-buffer-preserved c =
    let inv = c.loop-buffer.invariant in
    let xs = c.args.buffers.now in
    let i = c.loop-buffer.buffer-index in
    let l = c.loop-buffer-test.true in
    record {
      items = written_more buffer_bytes c.args.out.now.items xs i _ _ l refl inv.items c.put_buffer.ensures.items;
      len = omega (arith, inv.len, c.put_buffer.ensures.len);
      range = each_more HasBufferRange xs i _ _ l refl inv.range c.put_buffer.ensures.range;
    }
