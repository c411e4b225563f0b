use Rattle.mscp_queue.proofs.Common.{◌≡◌, ◌<◌, ℕ, get_or, length, costs}
use Rattle.mscp_queue.proofs.picker.fill_row.Given as goal

abbrev pub invariant-loop-place : goal.invariant-loop-place
invariant-loop-place l = record {
  long : length l.row ≡ 64;
  each : (k : ℕ) → k < l.place → get_or l.row k 0 ≡ get_or (costs l.choices) k 0;
}
