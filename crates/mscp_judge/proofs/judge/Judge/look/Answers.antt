use Rattle.mscp_judge.proofs.Common.{refl, Ok, arith}
use Rattle.mscp_controller.specs.declared.entry.Entry.TheVariants as entries
use Rattle.mscp_drive.specs.declared.event.Event.TheVariants as events
use Rattle.mscp_judge.proofs.Answering.{look_answers}
use Rattle.mscp_judge.proofs.Coming.{came_on}
use Rattle.mscp_judge.proofs.Telling.{reported_lines}
use Rattle.mscp_judge.proofs.judge.Judge.look.Goals as goal

pub returns-clause-came : goal.returns-clause-came
returns-clause-came g c = came_on (Ok tt) c.args.self.now _ c.args.self.now.controller.picker.named events.Look
    (entries.Looked c.look-shown.result) c.forget_lines.new.self (c.look-shown.ensures.value, refl)
    c.forget_lines.ensures c.in_ok-looked.ensures.value refl 0 _ refl c.most_passed.ensures.oldest c.rise.ensures.figure
    c.rise.ensures.passed c.most_passed.ensures.most

pub returns-clause-answers : goal.returns-clause-answers
returns-clause-answers g c = search (arith, reported_lines, look_answers)
