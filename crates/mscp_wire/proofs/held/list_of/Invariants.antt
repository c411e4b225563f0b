use Rattle.mscp_wire.proofs.Common.{sents, take, ◌≡◌}
use Rattle.mscp_wire.proofs.held.list_of.Given as goal

abbrev pub invariant-loop-at : goal.invariant-loop-at
invariant-loop-at g l = l.list.items ≡ sents (take l.at l.fn.cells)
