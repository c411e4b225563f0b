use Rattle.mscp_port.proofs.Common.{◌≡◌, array_vec_len, parts_in, buffer_in}
use Rattle.mscp_port.proofs.port.restoring.buffers_in.Given as goal

abbrev pub invariant-loop-place : goal.invariant-loop-place
invariant-loop-place l =
    record { items : l.buffers.items ≡ parts_in buffer_in 21 l.place l.b; len : array_vec_len l.buffers ≡ l.place }
