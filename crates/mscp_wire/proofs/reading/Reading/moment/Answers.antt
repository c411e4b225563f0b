use Rattle.mscp_wire.proofs.Common.{IsAfter, Some, ap, command_of, if◌then◌else◌, refl, spared, subst, sym, with_either, with_moment, with_stranger, ◌∙◌, ◌≡◌}
use Rattle.mscp_wire.proofs.Added.{Heard, outstanding_now, reading_more, right_found, step_of}
use Rattle.mscp_wire.proofs.Contradicted.{kept_then, passed_then, seen_then}
use Rattle.mscp_wire.proofs.Passing.{broken_after}
use Rattle.mscp_wire.proofs.Sparing.{asked_in, none_in, none_strange, spared_in}
use Rattle.mscp_wire.proofs.reading.Reading.moment.Goals as goal

pub returns-in_ok-add-in-None-clause-after : goal.returns-in_ok-add-in-None-clause-after
returns-in_ok-add-in-None-clause-after g c = λ log s.
    let m = c.args.moment in
    let stepped = c.in_ok-stepped.ensures in
    let none = broken_after log m _ _ _ _ _ s.credits s.commands s.units s.controller
    (sym c.in-None.is ∙ stepped.rule) in
    let of = step_of log m c.args.self.now.judge c.in_ok-stepped.stepped s.commands s.units s.called stepped.command
    stepped.fall stepped.doubtful in
    let added = c.in_ok-add-in-None.ensures in
    let heard : Heard m c.args.self.now.judge c.step.new.self = record {
      credits = stepped.credits;
      commands = stepped.after c.in-None.is;
      units = stepped.units c.in-None.is;
      called = stepped.called c.in-None.is;
      controller = stepped.controller c.in-None.is;
      timeout = stepped.timeout c.in-None.is;
    } in (
      with_either c.args.number log m,
      refl,
      subst (λ b. IsAfter (if b then with_stranger log m else with_moment c.args.number log m) c.add.new.self)
          (sym (none_strange log m none))
          (reading_more c.args.number log m c.args.self.now c.add.new.self s c.step.new.self heard added.judge
          c.in_ok-stepped.stepped.doubtful c.in_ok-stepped.stepped.command
          (added.totals log.moments s.totals
          (outstanding_now c.args.number log m c.args.self.now c.add.new.self s c.step.new.self heard added.judge)
          of.fall)
          of.command (right_found log m c.in_ok-stepped.stepped.doubtful none of.doubtful) added.doubts
          (added.middle log s.middle)),
      none_in log m none,
    )

pub returns-in_ok-spare-in-Some-clause-after : goal.returns-in_ok-spare-in-Some-clause-after
returns-in_ok-spare-in-Some-clause-after g c = λ log s.
    let m = c.args.moment in
    let stepped = c.in_ok-stepped.ensures in
    let broken = broken_after log m _ _ _ _ _ s.credits s.commands s.units s.controller
    (sym c.in-Some.is ∙ stepped.rule) in
    let of = step_of log m c.args.self.now.judge c.in_ok-stepped.stepped s.commands s.units s.called stepped.command
    stepped.fall stepped.doubtful in
    let spares = sym (c.spares.ensures log s.middle) ∙ c.if-spares.true in
    let on = subst (λ j. IsAfter log (record c.args.self.now { judge = j }))
    (sym (kept_then _ _ _ _ c.in-Some.is stepped.unchanged)) s in (
      with_either c.args.number log m,
      refl,
      c.in_ok-spare-in-Some.ensures.after log on broken spares of,
      spared_in log m c.in-Some.rule broken spares,
    )

pub returns-in-Some-2-clause-after : goal.returns-in-Some-2-clause-after
returns-in-Some-2-clause-after g c = λ log s.
    let m = c.args.moment in
    let stepped = c.in_ok-stepped.ensures in
    let both : Some c.in-Some.rule ≡ Some c.in-Some-2.rule = sym c.in-Some.is ∙ c.in-Some-2.is in
    let same : c.in-Some.rule ≡ c.in-Some-2.rule = cc in record {
      line = refl;
      says = refl;
      rule = asked_in log m c.in-Some-2.rule
          (broken_after log m _ _ _ _ _ s.credits s.commands s.units s.controller
          (sym c.in-Some-2.is ∙ stepped.rule))
          (ap (spared log m) (sym same) ∙ sym (c.spares.ensures log s.middle) ∙ c.if-spares.false);
      command = stepped.command ∙ ap (λ xs. command_of xs m) s.commands;
      passed =
          c.passed.ensures
          ∙ passed_then c.args.self.now.judge c.step.new.self m _
          (kept_then _ _ _ _ c.in-Some-2.is stepped.unchanged) s.commands;
      seen =
          c.seen.ensures
          ∙ seen_then c.args.self.now.judge c.step.new.self m _ _ _
          (kept_then _ _ _ _ c.in-Some-2.is stepped.unchanged) s.commands s.units s.controller;
    }
