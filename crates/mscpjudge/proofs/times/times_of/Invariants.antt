use Rattle.mscpjudge.proofs.Common.{length, lines, time_of, ◌≡◌}
use Rattle.mscpjudge.proofs.Timed.{Past}
use Rattle.mscpjudge.proofs.times.times_of.Given as goal

abbrev pub invariant-loop-line : goal.invariant-loop-line
invariant-loop-line l = record {
  past : Past l.lines.number (lines l.fn.lines.rest.now) (lines l.lines.rest.now) (time_of l.times.lines);
  numbers : l.times.numbers.now ≡ l.numbers;
}

abbrev pub decreases-loop-line : goal.decreases-loop-line
decreases-loop-line l = length l.lines.rest.now
