use Rattle.mscp_saved.proofs.Common.{◌≡◌, drop, are_passed}
use Rattle.mscp_saved.proofs.checking.are_passed.Given as goal

abbrev pub invariant-loop-place : goal.invariant-loop-place
invariant-loop-place l = are_passed l.fn.budget l.waiting ≡ are_passed l.most (drop l.place l.waiting)
