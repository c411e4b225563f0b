use Rattle.mscp_queue.proofs.Swept.{IsCheapest}
use Rattle.mscp_queue.proofs.picker.cheapest.Given as goal

abbrev pub invariant-loop-place : goal.invariant-loop-place
invariant-loop-place l = IsCheapest l.choices l.place l.best l.least
