use Rattle.mscp_saved.proofs.Common.{◌≡◌, ◌+◌, ◌*◌, ◌++◌, take, flat_map, array_vec_len, waiting_bytes}
use Rattle.mscp_saved.proofs.writing.put_records.Given as goal

abbrev pub invariant-loop-place : goal.invariant-loop-place
invariant-loop-place l = record {
  items : l.out.items ≡ l.fn.out.items ++ flat_map waiting_bytes (take l.place l.records);
  len : array_vec_len l.out ≡ array_vec_len l.fn.out + 41 * l.place;
}
