use Rattle.mscp_wire.proofs.Common.{leaves, length, ◌-◌}
use Rattle.mscp_wire.proofs.Placed.{AreChanged}
use Rattle.mscp_wire.proofs.commands.Commands.leave_all.Given as goal

abbrev pub invariant-loop-at : goal.invariant-loop-at
invariant-loop-at g l = AreChanged (leaves l.ended) l.initial.self l.self l.from

abbrev pub decreases-loop-at : goal.decreases-loop-at
decreases-loop-at g l = length l.self - l.from
