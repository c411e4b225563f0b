use Rattle.mscp_judge.proofs.Common.{refl, sym, subst, Ok, slice_get, of, AreAnswers}
use Rattle.mscp_controller.specs.declared.entry.Entry.TheVariants as entries
use Rattle.mscp_drive.specs.declared.event.Event.TheVariants as events
use Rattle.mscp_judge.proofs.Answering.{taken_answers}
use Rattle.mscp_judge.proofs.Coming.{came_on}
use Rattle.mscp_judge.proofs.Printed.{taken_are}
use Rattle.mscp_judge.proofs.Telling.{reported_lines}
use Rattle.mscp_judge.proofs.judge.Judge.take.Goals as goal

pub returns-clause-came : goal.returns-clause-came
returns-clause-came g c = came_on (Ok tt) c.args.self.now _ c.args.self.now.controller.picker.named
    (events.Take c.args.connection) (entries.Taken c.args.connection c.take-end.result) c.forget_lines.new.self
    (refl, c.take-end.ensures.answer, c.take-end.ensures.after) c.forget_lines.ensures c.in_ok-taken.ensures.value
    refl 0 _
    refl c.most_passed.ensures.oldest c.rise.ensures.figure c.rise.ensures.passed c.most_passed.ensures.most

pub returns-clause-answers : goal.returns-clause-answers
returns-clause-answers g c =
    subst (λ bs. AreAnswers bs 1)
    (sym (reported_lines c.args.self.now.reporter c.forget_lines.new.self c.taken.new.self
    (entries.Taken c.args.connection c.take-end.result) c.forget_lines.ensures c.in_ok-taken.ensures.value))
    (taken_answers c.args.connection c.take-end.result
    (taken_are (slice_get (of c.args.connection c.args.self.now.controller.untaken) 0) c.take-end.result
    c.take-end.ensures.answer c.take-end.ensures.reads_back))
