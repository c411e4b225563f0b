use Rattle.mscp_wire.proofs.Common.{Err, GoesOn, Ok, [], ap, first_in, line_says, lines, no_findings, places_by, refl, subst, sym, ◌++◌, ◌∙◌, ◌∷◌}
use Rattle.mscp_wire.proofs.Going.{first_faults, first_found, first_more, first_none}
use Rattle.mscp_wire.proofs.course.places_of.Goals as goal

pub loop-line-init : goal.loop-line-init
loop-line-init g c = record {
  findings = no_findings;
  on = c.new-course.ensures;
  none = refl;
  first = ap (λ n. first_in n no_findings (lines c.args.lines.now.rest.now)) (sym c.requires);
}

pub loop-line-preserved : goal.loop-line-preserved
loop-line-preserved g c =
    let i = c.loop-line.invariant in
    let goes = subst (λ x. GoesOn c.cut.new.self.number i.findings
    (line_says c.cut.new.self.number c.in-Some.line.now) (Ok x) c.line.new.self) c.in-Ok-None.field-0-is
    (c.in-Ok-None.ensures i.findings i.on) in
    let none = goes.3 ∙ ap (λ xs. xs ++ []) i.none in
    record {
      findings = goes.0;
      on = goes.2;
      none = none;
      first =
          i.first ∙ ap (first_in c.loop-line.lines.number i.findings) c.in-Some.ensures.line
          ∙ first_more c.loop-line.lines.number c.cut.new.self.number i.findings goes.0 c.in-Some.line.now
          (lines c.cut.new.self.rest.now) c.in-Some.ensures.counted goes.1 none;
    }

pub returns-in-Ok-Some : goal.returns-in-Ok-Some
returns-in-Ok-Some g c =
    let i = c.loop-line.invariant in
    let goes = subst (λ x. GoesOn c.cut.new.self.number i.findings
    (line_says c.cut.new.self.number c.in-Some.line.now) (Ok x) c.line.new.self) c.in-Ok-Some.field-0-is
    (c.in-Ok-Some.ensures i.findings i.on) in
    sym (ap places_by (i.first ∙ ap (first_in c.loop-line.lines.number i.findings) c.in-Some.ensures.line
    ∙ first_found c.loop-line.lines.number c.cut.new.self.number i.findings goes.0 c.in-Some.line.now
    (lines c.cut.new.self.rest.now) c.in-Ok-Some.finding c.in-Some.ensures.counted goes.1
    (goes.3 ∙ ap (λ xs. xs ++ c.in-Ok-Some.finding ∷ []) i.none)))

pub returns-in-Err-Script : goal.returns-in-Err-Script
returns-in-Err-Script g c =
    let i = c.loop-line.invariant in
    let goes = subst (λ x. GoesOn c.cut.new.self.number i.findings
    (line_says c.cut.new.self.number c.in-Some.line.now) (Err x) c.line.new.self) c.in-Err-Script.field-0-is
    (c.in-Err-Script.ensures i.findings i.on) in
    c.nowhere.ensures
    ∙ sym (ap places_by (i.first ∙ ap (first_in c.loop-line.lines.number i.findings) c.in-Some.ensures.line
    ∙ first_faults c.loop-line.lines.number c.cut.new.self.number i.findings c.in-Some.line.now
    (lines c.cut.new.self.rest.now) _ c.in-Some.ensures.counted goes.1))

pub returns : goal.returns
returns g c =
    let i = c.loop-line.invariant in
    c.nowhere-2.ensures
    ∙ sym (ap places_by (i.first ∙ ap (first_in c.loop-line.lines.number i.findings) c.in_default.ensures.line
    ∙ first_none c.loop-line.lines.number i.findings))
