use Rattle.mscp_controller.proofs.Common.{◌≡◌, ◌≤◌, length, take, waiting_on}
use Rattle.mscp_controller.proofs.account.restoring.count_on.Given as goal

abbrev pub invariant-loop-place : goal.invariant-loop-place
invariant-loop-place l =
    record { counted : l.count ≡ length (waiting_on l.connection (take l.place l.records)); small : l.count ≤ l.place }
