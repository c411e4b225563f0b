use Rattle.mscp_wire.proofs.Common.{Doubtful, IfOk-from_err, IsAfter, ap, called, doubtful, false≢true, if◌then◌else◌, outstanding, sents, spared, subst, sym, told, with_moment, with_stranger, ◌∙◌}
use Rattle.mscp_wire.proofs.Added.{Heard, outstanding_now, reading_more}
use Rattle.mscp_wire.proofs.Sparing.{outstanding_is, spared_counts, spared_strange}
use Rattle.mscp_wire.proofs.reading.Reading.spare.Goals as goal

pub returns-then-is_outstanding-clause-after : goal.returns-then-is_outstanding-clause-after
returns-then-is_outstanding-clause-after g c = λ log s broken spares of.
    let m = c.args.moment.now in
    let rule = outstanding_is c.args.rule (sym c.is_outstanding.ensures ∙ c.if-is_outstanding.true) in
    subst (λ b. IsAfter (if b then with_stranger log m else with_moment c.args.number log m)
    (record c.args.self.now { middle = c.hear_stranger.new.middle }))
    (sym (spared_strange log m c.args.rule c.is_outstanding.result broken spares c.is_outstanding.ensures
    ∙ c.if-is_outstanding.true))
    (record {
      credits = s.credits;
      commands = s.commands;
      units = s.units;
      controller = s.controller;
      timeout = s.timeout;
      called = s.called;
      totals = s.totals;
      doubts = s.doubts;
      lines = s.lines;
      middle = c.in_ok-hear_stranger.ensures log s.middle (ap (spared log m) (sym rule) ∙ spares);
    })

pub returns-in_ok-add-clause-after : goal.returns-in_ok-add-clause-after
returns-in_ok-add-clause-after g c = λ log s broken spares of.
    let m = c.args.moment.now in
    let told_by = c.in_ok-accept.ensures in
    let added = c.in_ok-add.ensures in
    let heard : Heard m c.args.self.now.judge c.accept.new.self = record {
      credits = told_by.credits;
      commands = told_by.after;
      units = told_by.units;
      called = told_by.called;
      controller = told_by.controller;
      timeout = told_by.timeout;
    } in
    let d = doubtful (outstanding log.moments) (told log.moments) (called log.moments) m in
    subst (λ b. IsAfter (if b then with_stranger log m else with_moment c.args.number log m) c.add.new.self)
    (sym (spared_strange log m c.args.rule c.is_outstanding.result broken spares c.is_outstanding.ensures
    ∙ c.if-is_outstanding.false))
    (reading_more c.args.number log m c.args.self.now c.add.new.self s c.accept.new.self heard added.judge
    (record c.args.stepped.now.doubtful { figure = c.is_slow.result }) c.args.stepped.now.command
    (added.totals log.moments s.totals
    (outstanding_now c.args.number log m c.args.self.now c.add.new.self s c.accept.new.self heard added.judge) of.fall)
    of.command
    (ap (λ (x : Doubtful). record x { figure = c.is_slow.result }) of.doubtful
    ∙ ap (λ b. record d { figure = b }) (c.is_slow.ensures log s.middle broken)) added.doubts
    (added.middle log s.middle))

pub returns-else-counts-clause-after : goal.returns-else-counts-clause-after
returns-else-counts-clause-after g c = λ log s broken spares of.
    absurd (false≢true (sym c.if-counts.false ∙ c.counts.ensures
    ∙ spared_counts log c.args.moment.now c.args.rule (sents c.args.self.now.judge.commands) spares))

pub returns-in_err-hear_stranger-clause-after : goal.returns-in_err-hear_stranger-clause-after
returns-in_err-hear_stranger-clause-after g c = IfOk-from_err c.from_residual.result _ c.from_residual.ensures.0

pub returns-in_err-accept-clause-after : goal.returns-in_err-accept-clause-after
returns-in_err-accept-clause-after g c =
    IfOk-from_err c.from_residual-in_err-accept.result _ c.from_residual-in_err-accept.ensures.0

pub returns-in_err-add-clause-after : goal.returns-in_err-add-clause-after
returns-in_err-add-clause-after g c =
    IfOk-from_err c.from_residual-in_err-add.result _ c.from_residual-in_err-add.ensures.0
