use Rattle.mscp_wire.proofs.Tagged.{AreMade}
use Rattle.mscp_wire.proofs.tags.tag_all.Given as goal

abbrev pub invariant-loop-at : goal.invariant-loop-at
invariant-loop-at g l = AreMade l.cells l.tags.items l.at
