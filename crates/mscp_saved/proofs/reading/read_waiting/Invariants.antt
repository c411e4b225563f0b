use Rattle.mscp_saved.proofs.Common.{◌≡◌, ◌+◌, ◌++◌, array_vec_len, waiting_in, parts_in}
use Rattle.mscp_saved.proofs.reading.read_waiting.Given as goal

abbrev pub invariant-loop-place : goal.invariant-loop-place
invariant-loop-place l = record {
  items : l.waiting.items ≡ l.fn.waiting.items ++ parts_in waiting_in 41 l.place l.b;
  len : array_vec_len l.waiting ≡ array_vec_len l.fn.waiting + l.place;
}
