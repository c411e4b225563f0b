use Rattle.mscp_queue.proofs.Common.{◌≡◌, ◌*◌, ◌≤◌, ◌^◌, take, sum_by, left_if_serving}
use Rattle.mscp_queue.proofs.backlog.restoring.left_in_service.Given as goal

abbrev pub invariant-loop-place : goal.invariant-loop-place
invariant-loop-place l =
    record { sum : l.left ≡ sum_by left_if_serving (take l.place l.records); small : l.left ≤ l.place * 2 ^ 32 }
