use Rattle.mscp_queue.proofs.Common.{◌≡◌, ◌+◌, ◌*◌, ◌≤◌, ◌^◌, drop, take, sum_by, left_if_serving}
use Rattle.mscp_queue.proofs.backlog.Backlog.left_behind.Given as goal

abbrev pub invariant-loop-behind : goal.invariant-loop-behind
invariant-loop-behind l = record {
  sum : l.left ≡ sum_by left_if_serving (take l.behind (drop (l.place + 1) l.self.waiting));
  small : l.left ≤ l.behind * 2 ^ 32;
}
