use Rattle.mscpjudge.proofs.Common.{[], length, lines, lines_shown, ◌≡◌}
use Rattle.mscpjudge.proofs.showing.show_lines.Given as goal

abbrev pub invariant-loop-line : goal.invariant-loop-line
invariant-loop-line l =
    lines_shown 0 [] (lines l.fn.lines.rest.now) ≡ lines_shown l.lines.number l.text.items (lines l.lines.rest.now)

abbrev pub decreases-loop-line : goal.decreases-loop-line
decreases-loop-line l = length l.lines.rest.now
