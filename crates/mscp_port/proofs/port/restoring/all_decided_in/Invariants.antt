use Rattle.mscp_port.proofs.Common.{◌≡◌, array_vec_len, parts_in, decided_in}
use Rattle.mscp_port.proofs.port.restoring.all_decided_in.Given as goal

abbrev pub invariant-loop-place : goal.invariant-loop-place
invariant-loop-place l =
    record { items : l.all.items ≡ parts_in decided_in 13 l.place l.b; len : array_vec_len l.all ≡ l.place }
