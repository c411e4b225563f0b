use Rattle.mscp_wire.proofs.Common.{IsOn, Some, ap, command_of, finding_by, findings_after, listed, mentions_counted, refl, spared, subst, sym, with_counted, ◌++◌, ◌∙◌, ◌≡◌}
use Rattle.mscp_wire.proofs.Added.{course_more}
use Rattle.mscp_wire.proofs.Contradicted.{kept_then}
use Rattle.mscp_wire.proofs.Going.{counted_told, right_told}
use Rattle.mscp_wire.proofs.Passing.{broken_after}
use Rattle.mscp_wire.proofs.Sparing.{asked_in, asked_strange, none_in, none_strange, spared_in}
use Rattle.mscp_wire.proofs.course.Course.moment.Goals as goal

pub returns-in_ok-note-in-None : goal.returns-in_ok-note-in-None
returns-in_ok-note-in-None g c = λ f s.
    let m = c.args.moment in
    let stepped = c.in_ok-rule.ensures in
    let noted = c.in_ok-note-in-None.ensures in
    let none = broken_after f.log m _ _ _ _ _ s.credits s.commands s.units s.controller
    (sym c.in-None.is ∙ stepped.rule) in (
      findings_after c.args.number f m,
      refl,
      counted_told c.args.number f.log f.mentions m c.note.new.self (none_strange f.log m none)
          (course_more c.args.number f.log f.mentions m c.args.self.now c.note.new.self s c.step.new.self (record {
            credits = stepped.credits;
            commands = stepped.after c.in-None.is;
            units = stepped.units c.in-None.is;
            called = stepped.called c.in-None.is;
            controller = stepped.controller c.in-None.is;
            timeout = stepped.timeout c.in-None.is;
          }) noted.judge noted.fresh noted.mentions (noted.middle f.log s.middle) (right_told f.log m none)),
      ap (λ o. f.found ++ listed (finding_by c.args.number f m o)) (none_in f.log m none),
    )

pub returns-in_ok-spare-in-Some : goal.returns-in_ok-spare-in-Some
returns-in_ok-spare-in-Some g c = λ f s.
    let m = c.args.moment in
    let broken = broken_after f.log m _ _ _ _ _ s.credits s.commands s.units s.controller
    (sym c.in-Some.is ∙ c.in_ok-rule.ensures.rule) in
    let spares = sym (c.spares.ensures f.log s.middle) ∙ c.if-spares.true in
    let on = subst (λ j. IsOn f.log f.mentions (record c.args.self.now { judge = j }))
    (sym (kept_then _ _ _ _ c.in-Some.is c.in_ok-rule.ensures.unchanged)) s in (
      findings_after c.args.number f m,
      refl,
      c.in_ok-spare-in-Some.ensures f.log f.mentions on broken spares,
      ap (λ o. f.found ++ listed (finding_by c.args.number f m o)) (spared_in f.log m c.in-Some.rule broken spares),
    )

pub returns-in_ok-count-in-Some-2 : goal.returns-in_ok-count-in-Some-2
returns-in_ok-count-in-Some-2 g c = λ f s.
    let m = c.args.moment in
    let on = subst (λ j. IsOn f.log f.mentions (record c.args.self.now { judge = j }))
    (sym (kept_then _ _ _ _ c.in-Some-2.is c.in_ok-rule.ensures.unchanged)) s in
    let broken = broken_after f.log m _ _ _ _ _ s.credits s.commands s.units s.controller
    (sym c.in-Some-2.is ∙ c.in_ok-rule.ensures.rule) in
    let both : Some c.in-Some.rule ≡ Some c.in-Some-2.rule = sym c.in-Some.is ∙ c.in-Some-2.is in
    let same : c.in-Some.rule ≡ c.in-Some-2.rule = cc in
    let asked = ap (spared f.log m) (sym same) ∙ sym (c.spares.ensures f.log s.middle) ∙ c.if-spares.false in
    let told = counted_told c.args.number f.log f.mentions m c.count.new.self
    (asked_strange f.log m c.in-Some-2.rule broken asked) in (
      findings_after c.args.number f m,
      refl,
      told (subst (λ x. IsOn (with_counted c.args.number f.log x) (mentions_counted c.args.number f.log f.mentions x)
          c.count.new.self) c.finding-finding.ensures.moment
          (c.in_ok-count-in-Some-2.ensures f.log f.mentions on)),
      ap (λ o. f.found ++ listed o) (c.finding-finding.ensures.found f on
          (asked_in f.log m c.in-Some-2.rule broken asked)
          (c.in_ok-rule.ensures.command ∙ ap (λ xs. command_of xs m) s.commands)),
    )
