use Rattle.mscpjudge.proofs.Common.{flat_map, rule_text, rules_in_order, take, ◌++◌, ◌≡◌}
use Rattle.mscpjudge.proofs.finding.put_counts.Given as goal

abbrev pub invariant-loop-rule : goal.invariant-loop-rule
invariant-loop-rule g l =
    l.text.items ≡ l.fn.text.items ++ flat_map (rule_text l.broken) (take l.rule-index rules_in_order)
