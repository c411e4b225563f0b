use Rattle.mscpjudge.proofs.Common.{have_ports, length, lines, ◌≡◌}
use Rattle.mscpjudge.proofs.ports.have_ports.Given as goal

abbrev pub invariant-loop-line : goal.invariant-loop-line
invariant-loop-line l =
    have_ports 0 (lines l.fn.lines.rest.now) ≡ have_ports l.lines.number (lines l.lines.rest.now)

abbrev pub decreases-loop-line : goal.decreases-loop-line
decreases-loop-line l = length l.lines.rest.now
