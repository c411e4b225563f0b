use Rattle.mscp_saved.proofs.Common.{◌≡◌, ◌≤◌, length, take, filter, is_in_service}
use Rattle.mscp_saved.proofs.checking.count_in_service.Given as goal

abbrev pub invariant-loop-place : goal.invariant-loop-place
invariant-loop-place l =
    record { counted : l.count ≡ length (filter is_in_service (take l.place l.waiting)); small : l.count ≤ l.place }
