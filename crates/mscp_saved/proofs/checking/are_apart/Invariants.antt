use Rattle.mscp_saved.proofs.Common.{◌≡◌, drop, are_apart}
use Rattle.mscp_saved.proofs.checking.are_apart.Given as goal

abbrev pub invariant-loop-place : goal.invariant-loop-place
invariant-loop-place l = are_apart l.waiting ≡ are_apart (drop l.place l.waiting)
