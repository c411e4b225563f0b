use Rattle.mscp_queue.proofs.Common.{◌≡◌, ◌*◌, ◌≤◌, ◌^◌, take, sum_by, left_of}
use Rattle.mscp_queue.proofs.backlog.Backlog.left_up_to.Given as goal

abbrev pub invariant-loop-earlier : goal.invariant-loop-earlier
invariant-loop-earlier l = record {
  sum : l.left ≡ sum_by left_of (take l.earlier l.self.waiting);
  small : l.left ≤ l.earlier * 2 ^ 32;
}
