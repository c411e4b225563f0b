use Rattle.mscp_saved.proofs.Common.{All, ◌≡◌, ◌+◌, ◌*◌, ◌++◌, take, flat_map, array_vec_len, HasWaitingRange, waiting_bytes}
use Rattle.mscp_saved.proofs.writing.put_all_waiting.Given as goal

abbrev pub invariant-loop-place : goal.invariant-loop-place
invariant-loop-place g l = record {
  items : l.out.items ≡ l.fn.out.items ++ flat_map waiting_bytes (take l.place l.controller.waiting);
  len : array_vec_len l.out ≡ array_vec_len l.fn.out + 41 * l.place;
  range : All HasWaitingRange (take l.place l.controller.waiting);
}
