use Rattle.mscp_wire.proofs.Common.{Findings, IsOn, [], first_in, length, lines, no_findings, ◌≡◌}
use Rattle.mscp_wire.proofs.course.places_of.Given as goal

abbrev pub invariant-loop-line : goal.invariant-loop-line
invariant-loop-line g l = record {
  findings : Findings;
  on : IsOn findings.log findings.mentions l.course;
  none : findings.found ≡ [];
  first : first_in 0 no_findings (lines l.fn.lines.rest.now)
      ≡ first_in l.lines.number findings (lines l.lines.rest.now);
}

abbrev pub decreases-loop-line : goal.decreases-loop-line
decreases-loop-line g l = length l.lines.rest.now
