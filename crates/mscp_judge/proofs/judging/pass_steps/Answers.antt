use Rattle.mscp_judge.proofs.Common.{refl, ap, ◌∙◌, arith, due}
use Rattle.mscp_judge.proofs.Passing.{passed_answers, passed_more, passed_none}
use Rattle.mscp_judge.proofs.Telling.{step_settings, told_step}
use Rattle.mscp_judge.proofs.judging.pass_steps.Goals as goal

pub loop-named-init : goal.loop-named-init
loop-named-init g c = search (arith, passed_none)

pub returns-then-is_rule_wanted-clause-passed : goal.returns-then-is_rule_wanted-clause-passed
returns-then-is_rule_wanted-clause-passed g c = search (arith, passed_none)

pub returns-then-not-cut_due-clause-wrong : goal.returns-then-not-cut_due-clause-wrong
returns-then-not-cut_due-clause-wrong g c = λ is d log s.
    let p = c.loop-named.invariant.passed d log s in
    let known = step_settings d p.next c.in-Some.named c.loop-named.judge c.step.new.self p.stands
    c.in-Some.ensures.due c.in-Some.ensures.owed c.in_ok-step.ensures.came c.in_ok-step.ensures.owed
    c.in_ok-step.ensures.block in (
      c.if-is_rule_wanted.false,
      known.0,
      ap (λ j. j.controller.settings) (c.if-not-cut_due.ensures.untold refl) ∙ known.1,
    )

pub loop-named-preserved : goal.loop-named-preserved
loop-named-preserved g c = record {
  passed = λ d log s.
      let p = c.loop-named.invariant.passed d log s in
      let old = c.loop-named.judge in
      let mid = c.step.new.self in
      let new = c.cut_due.new.judge in
      let rest = c.loop-named.lines.rest.now in
      let left = c.cut_due.new.lines.rest.now in
      let cut = c.if-not-cut_due.ensures.cut refl in
      let stands = told_step d p.next c.in-Some.named rest left old mid new c.in-Some.ensures.named p.stands
      c.in-Some.ensures.due c.in-Some.ensures.owed c.in_ok-step.ensures.came c.in_ok-step.ensures.owed
      c.in_ok-step.ensures.block c.in_ok-step.ensures.answers cut c.cut_due.ensures.frame
      (c.if-not-cut_due.ensures.told refl) in
      passed_more d log c.args.lines.now.number c.loop-named.lines.number _ c.args.lines.now.rest.now rest left old new
      p (passed_answers d p.next c.loop-named.lines.number _ 1 rest left (due mid) new
      c.in_ok-step.ensures.answers cut (c.if-not-cut_due.ensures.number refl) (c.if-not-cut_due.ensures.most refl)
      stands);
  few = omega (arith, c.loop-named.invariant.few, c.in_ok-step.ensures.count, c.cut_due.ensures.count);
  left = omega (arith, c.loop-named.invariant.left, c.cut_due.ensures.left);
}
