use Rattle.mscp_saved.proofs.Common.{All, ◌≡◌, ◌+◌, ◌*◌, ◌++◌, take, flat_map, array_vec_len, HasEndRange, end_cell}
use Rattle.mscp_saved.proofs.writing.put_ends.Given as goal

abbrev pub invariant-loop-place : goal.invariant-loop-place
invariant-loop-place l = record {
  items : l.out.items ≡ l.fn.out.items ++ flat_map end_cell (take l.place l.ends);
  len : array_vec_len l.out ≡ array_vec_len l.fn.out + 48 * l.place;
  range : All HasEndRange (take l.place l.ends);
}
