use Rattle.mscp_judge.proofs.Common.{◌∙◌, answer_rule}
use Rattle.mscp_judge.proofs.rules.due_rule.Goals as goal

pub returns : goal.returns
returns c = c.answer_rule.ensures ∙ (λ i. answer_rule (c.unnamed.ensures i) (c.unnamed-2.ensures i))
