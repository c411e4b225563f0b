use Rattle.mscp_queue.proofs.Common.{◌≡◌, length, range_with_len, figures_from}
use Rattle.mscp_queue.proofs.backlog.Backlog.look.Given as goal

abbrev pub invariant-loop-place : goal.invariant-loop-place
invariant-loop-place l = record {
  figures : l.list.items ≡ figures_from l.self.budget l.self.waiting (range_with_len 0 l.place);
  same : length l.list.items ≡ l.place;
}
