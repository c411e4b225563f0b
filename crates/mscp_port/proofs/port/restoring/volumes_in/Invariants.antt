use Rattle.mscp_port.proofs.Common.{◌≡◌, array_vec_len, parts_in, volume_in}
use Rattle.mscp_port.proofs.port.restoring.volumes_in.Given as goal

abbrev pub invariant-loop-place : goal.invariant-loop-place
invariant-loop-place l =
    record { items : l.volumes.items ≡ parts_in volume_in 18 l.place l.b; len : array_vec_len l.volumes ≡ l.place }
