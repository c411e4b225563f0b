use Rattle.mscp_host.proofs.Common.{◌≡◌, drop, are_apart}
use Rattle.mscp_host.proofs.outstanding.are_apart.Given as goal

abbrev pub invariant-loop-place : goal.invariant-loop-place
invariant-loop-place l = are_apart l.submissions ≡ are_apart (drop l.place l.submissions)
