use Rattle.mscp_judge.proofs.Common.{refl, Ok, arith}
use Rattle.mscp_controller.specs.declared.entry.Entry.TheVariants as entries
use Rattle.mscp_drive.specs.declared.event.Event.TheVariants as events
use Rattle.mscp_judge.proofs.Answering.{sent_answers}
use Rattle.mscp_judge.proofs.Coming.{came_on}
use Rattle.mscp_judge.proofs.Telling.{reported_lines}
use Rattle.mscp_judge.proofs.judge.Judge.send.Goals as goal

pub returns-clause-came : goal.returns-clause-came
returns-clause-came g c = came_on (Ok tt) c.args.self.now _ c.args.self.now.controller.picker.named
    (events.Send c.args.connection (record { items = c.args.message.now }))
    (entries.Sent c.args.connection c.send-sent.result) c.forget_lines.new.self
    (refl, c.send-sent.ensures.answer, c.send-sent.ensures.after) c.forget_lines.ensures c.in_ok-sent.ensures.value refl
    c.figure_queued-figure.result _ c.figure_queued-figure.ensures c.most_passed.ensures.oldest c.rise.ensures.figure
    c.rise.ensures.passed c.most_passed.ensures.most

pub returns-clause-answers : goal.returns-clause-answers
returns-clause-answers g c = search (arith, reported_lines, sent_answers)
