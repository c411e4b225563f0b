use Rattle.mscp_judge.proofs.Common.{◌≡◌, ◌≤◌, length, take, filter, is_open}
use Rattle.mscp_judge.proofs.starting.open.Given as goal

abbrev pub invariant-loop-place : goal.invariant-loop-place
invariant-loop-place l =
    (l.open.items ≡ filter (is_open l.controller.settings.budget l.controller.waiting)
    (take l.place l.names.items)) × (length l.open.items ≤ l.place)
