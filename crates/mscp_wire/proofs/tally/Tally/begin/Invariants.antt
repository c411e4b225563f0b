use Rattle.std.proofs.Common.{◌≡◌, ◌<◌, ℕ, get_or}
use Rattle.mscp_wire.proofs.tally.Tally.begin.Given as goal

abbrev pub invariant-loop : goal.invariant-loop
invariant-loop g l = (i : ℕ) → get_or l.self.counts.items i 65535 < 65535 → get_or l.self.counts.items i 65535 ≡ 0
