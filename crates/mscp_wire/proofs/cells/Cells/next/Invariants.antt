use Rattle.mscp_wire.proofs.Common.{NoneIn, is_sought, ◌-◌, ◌≤◌}
use Rattle.mscp_wire.proofs.cells.Cells.next.Given as goal

abbrev pub decreases-loop-at : goal.decreases-loop-at
decreases-loop-at g l = l.end - l.at

abbrev pub invariant-loop-at : goal.invariant-loop-at
invariant-loop-at g l = (l.from ≤ l.at) × NoneIn (is_sought l.sought) l.self l.from l.at
