use Rattle.mscp_judge.proofs.Common.{refl, subst, arith, Holdings, Steps, Wanted, IsNamed}
use Rattle.mscp_controller.specs.declared.entry.Entry.TheVariants as entries
use Rattle.mscp_drive.specs.declared.event.Event.TheVariants as events
use Rattle.mscp_judge.proofs.Coming.{came_on, stepped_short}
use Rattle.mscp_judge.proofs.Telling.{stepped_answers}
use Rattle.mscp_judge.proofs.judge.Judge.step.Goals as goal

pub returns-clause-came : goal.returns-clause-came
returns-clause-came g c =
    let block = c.args.self.now.block in
    let steps = subst (λ (h : Holdings Wanted). Steps
    (IsNamed h.picker.named) block h c.step-report.result c.step-report.new.self)
    c.replace_picker.ensures.after c.step-report.ensures.step in
    came_on c.stepped.result c.args.self.now _ c.args.wanted (events.Step block) (entries.Stepped c.step-report.result)
    c.forget_lines.new.self steps c.forget_lines.ensures c.stepped.ensures.value refl 0 _ refl
    c.most_passed.ensures.oldest c.rise.ensures.figure c.rise.ensures.passed c.most_passed.ensures.most

pub returns-clause-short : goal.returns-clause-short
returns-clause-short g c = search (arith, stepped_short)

pub returns-clause-answers : goal.returns-clause-answers
returns-clause-answers g c = search (arith, stepped_answers)
