use Rattle.mscpjudge.proofs.Common.{breach_from, length, lines, unknown, ◌≡◌}
use Rattle.mscpjudge.proofs.credits.breach_from.Given as goal

abbrev pub invariant-loop-line : goal.invariant-loop-line
invariant-loop-line l =
    breach_from 0 unknown (lines l.fn.lines.rest.now)
    ≡ breach_from l.lines.number l.account (lines l.lines.rest.now)

abbrev pub decreases-loop-line : goal.decreases-loop-line
decreases-loop-line l = length l.lines.rest.now
