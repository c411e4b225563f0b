use Rattle.mscp_saved.proofs.Common.{◌≡◌, ◌+◌, ◌++◌, array_vec_len, end_in, parts_in}
use Rattle.mscp_saved.proofs.reading.read_ends.Given as goal

abbrev pub invariant-loop-place : goal.invariant-loop-place
invariant-loop-place l = record {
  items : l.ends.items ≡ l.fn.ends.items ++ parts_in end_in 48 l.place l.b;
  len : array_vec_len l.ends ≡ array_vec_len l.fn.ends + l.place;
}
