use Rattle.mscp_port.proofs.Common.{All, ◌≡◌, ◌+◌, ◌*◌, ◌++◌, take, flat_map, array_vec_len, HasBufferRange, buffer_bytes}
use Rattle.mscp_port.proofs.port.saving.put_buffers.Given as goal

abbrev pub invariant-loop-buffer : goal.invariant-loop-buffer
invariant-loop-buffer l =
    record {
      items : l.out.items ≡ l.fn.out.items ++ flat_map buffer_bytes (take l.buffer-index l.buffers);
      len : array_vec_len l.out ≡ array_vec_len l.fn.out + 21 * l.buffer-index;
      range : All HasBufferRange (take l.buffer-index l.buffers);
    }
