use Rattle.mscpjudge.proofs.Common.{breaks, count_by, take, ◌≡◌}
use Rattle.mscpjudge.proofs.finding.count_of.Given as goal

abbrev pub invariant-loop-rule : goal.invariant-loop-rule
invariant-loop-rule l = l.count ≡ count_by (breaks l.name) (take l.rule-index l.broken)
