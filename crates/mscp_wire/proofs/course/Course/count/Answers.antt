use Rattle.mscp_wire.proofs.Common.{ap, counts, sym, ◌∙◌}
use Rattle.mscp_wire.proofs.Added.{course_more}
use Rattle.mscp_wire.proofs.course.Course.count.Goals as goal

pub returns : goal.returns
returns g c = λ log mentions s.
    let heard = c.in_ok-accept.ensures in
    let noted = c.in_ok-note.ensures in
    course_more c.args.number log mentions c.args.moment.now c.args.self.now c.note.new.self s c.accept.new.self
    (record {
      credits = heard.credits;
      commands = heard.after;
      units = heard.units;
      called = heard.called;
      controller = heard.controller;
      timeout = heard.timeout;
    }) noted.judge noted.fresh noted.mentions (noted.middle log s.middle)
    (ap (λ xs. counts xs c.args.moment.now) (sym s.commands) ∙ sym c.counts.ensures ∙ c.if-not-counts.false)
