use Rattle.mscp_wire.proofs.Common.{besides, length, ◌-◌}
use Rattle.mscp_wire.proofs.Placed.{AreChanged}
use Rattle.mscp_wire.proofs.commands.Commands.mark_all.Given as goal

abbrev pub invariant-loop-at : goal.invariant-loop-at
invariant-loop-at g l = AreChanged (besides l.ended) l.initial.self l.self l.from

abbrev pub decreases-loop-at : goal.decreases-loop-at
decreases-loop-at g l = length l.self - l.from
