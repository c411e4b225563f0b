use Rattle.mscpjudge.proofs.Common.{length, no_part, part_at, ℕ, ◌≡◌}
use Rattle.mscpjudge.proofs.ports.Sections.none.Given as goal

abbrev pub invariant-loop-port : goal.invariant-loop-port
invariant-loop-port l = record {
  long : length l.sections.items ≡ l._port;
  parts : (port : ℕ) → part_at l.sections.items port ≡ no_part;
}
