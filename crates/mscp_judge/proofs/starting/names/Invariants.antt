use Rattle.mscp_judge.proofs.Common.{◌≡◌, map, take, named}
use Rattle.mscp_judge.proofs.starting.names.Given as goal

abbrev pub invariant-loop-place : goal.invariant-loop-place
invariant-loop-place l = l.names.items ≡ map named (take l.place l.shown.items)
