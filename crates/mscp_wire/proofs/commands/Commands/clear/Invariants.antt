use Rattle.std.proofs.Common.{◌≡◌, ◌+◌, length}
use Rattle.mscp_wire.proofs.commands.Commands.clear.Given as goal

abbrev pub invariant-loop : goal.invariant-loop
invariant-loop g l = length l.self + l.counter ≡ l.end
