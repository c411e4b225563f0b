use Rattle.mscpjudge.proofs.Common.{IsTimed, Timed, after_lines, length, lines, nothing_timed, ◌≡◌, ◌≤◌}
use Rattle.mscpjudge.proofs.timing.timing_of.Given as goal

abbrev pub invariant-loop-line : goal.invariant-loop-line
invariant-loop-line l = record {
  t : Timed;
  timed : IsTimed t l.timing;
  hasty : l.timing.hasty ≤ l.lines.number;
  read : after_lines 0 nothing_timed (lines l.fn.lines.rest.now)
      ≡ after_lines l.lines.number t (lines l.lines.rest.now);
}

abbrev pub decreases-loop-line : goal.decreases-loop-line
decreases-loop-line l = length l.lines.rest.now
