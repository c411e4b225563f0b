use Rattle.mscpjudge.proofs.Common.{account_in, length, lines, unknown, ◌≡◌}
use Rattle.mscpjudge.proofs.credits.account_of.Given as goal

abbrev pub invariant-loop-line : goal.invariant-loop-line
invariant-loop-line l =
    account_in 0 l.number unknown (lines l.fn.lines.rest.now)
    ≡ account_in l.lines.number l.number l.account (lines l.lines.rest.now)

abbrev pub decreases-loop-line : goal.decreases-loop-line
decreases-loop-line l = length l.lines.rest.now
