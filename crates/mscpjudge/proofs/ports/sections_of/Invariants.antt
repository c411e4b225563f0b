use Rattle.mscpjudge.proofs.Common.{fault_in, first_fault, length, lines, no_part, part_at, part_in, ℕ, ◌+◌, ◌<◌, ◌≡◌}
use Rattle.mscpjudge.proofs.ports.sections_of.Given as goal

abbrev pub invariant-loop-line : goal.invariant-loop-line
invariant-loop-line l = record {
  long : length l.sections.ports.items ≡ 8;
  parts : (port : ℕ) → port < 8 → part_in port 0 0 no_part (lines l.log)
      ≡ part_in port l.lines.number l.at (part_at l.sections.ports.items port) (lines l.lines.rest.now);
  fault : fault_in 0 (lines l.log)
      ≡ first_fault l.sections.fault (fault_in l.lines.number (lines l.lines.rest.now));
  count : l.lines.number + length (lines l.lines.rest.now) ≡ length (lines l.log);
}

abbrev pub decreases-loop-line : goal.decreases-loop-line
decreases-loop-line l = length l.lines.rest.now
