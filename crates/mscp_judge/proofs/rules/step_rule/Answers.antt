use Rattle.mscp_judge.proofs.Common.{◌≡◌, ◌≢◌, sym, ◌∙◌, subst, arith, Option, Some, common_steps, Name, IsStepRule}
use Rattle.mscp_judge.specs.declared.rules.Rule.TheVariants as rules
use Rattle.mscp_judge.proofs.Leading.{follow}
use Rattle.mscp_judge.proofs.Hindered.{is_another, is_free_to, is_kept_back, is_nowhere, is_own, is_unnamed, some_first}
use Rattle.mscp_judge.proofs.rules.step_rule.Goals as goal

pub returns-then-is_wanted : goal.returns-then-is_wanted
returns-then-is_wanted c = λ d t begun v led.
    let served : Name = record { connection = c.in-Some.connection; reference = c.in-Some.reference } in
    let same : Some served ≡ c.args.wanted = grind (arith, common_steps) in
    subst (λ (n : Option Name). IsStepRule d t n rules.Service) same
    (is_own d t c.args.controller.now _ (follow d begun t c.args.controller.now v led) c.in-Some.ensures.some)

pub returns-else-is_wanted : goal.returns-else-is_wanted
returns-else-is_wanted c = λ d t begun v led.
    let served : Name = record { connection = c.in-Some.connection; reference = c.in-Some.reference } in
    let differ : c.args.wanted ≢ Some served = λ e. let no : ⊥ = grind (arith, common_steps) in no in
    is_another d t c.args.controller.now c.args.wanted served (follow d begun t c.args.controller.now v led)
    c.in-Some.ensures.some differ

pub returns-in_default-wanted : goal.returns-in_default-wanted
returns-in_default-wanted c = λ d t begun v led.
    subst (λ (n : Option Name). IsStepRule d t n rules.NotWaiting) (sym c.in_default-wanted.is)
    (is_unnamed d t c.args.controller.now (follow d begun t c.args.controller.now v led) c.in_default.ensures.none)

pub returns-then-figure-eq0 : goal.returns-then-figure-eq0
returns-then-figure-eq0 c = λ d t begun v led.
    subst (λ (n : Option Name). IsStepRule d t n rules.NotWaiting) (sym c.in-Some-wanted.is)
    (is_nowhere d t c.args.controller.now _ v (follow d begun t c.args.controller.now v led) c.in_default.ensures.none
    (sym c.figure.ensures.value ∙ c.if-figure-eq0.true))

pub returns-then-is_empty : goal.returns-then-is_empty
returns-then-is_empty c = search (arith, common_steps, is_free_to, follow)

pub returns-else-is_empty : goal.returns-else-is_empty
returns-else-is_empty c = search (arith, common_steps, some_first, is_kept_back, follow)
