use Rattle.mscp_saved.proofs.Common.{◌≡◌, ◌≤◌, length, take, waiting_on}
use Rattle.mscp_saved.proofs.checking.count_on.Given as goal

abbrev pub invariant-loop-place : goal.invariant-loop-place
invariant-loop-place l =
    record { counted : l.count ≡ length (waiting_on l.connection (take l.place l.waiting)); small : l.count ≤ l.place }
