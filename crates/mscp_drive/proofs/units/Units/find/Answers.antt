use Rattle.std.proofs.Common.{ap, sym, ◌∙◌, subst}
use Rattle.std.proofs.lemmas.List.{get_or_default}
use Rattle.mscp_drive.specs.Common.{NumbersRise, unit_found}
use Rattle.mscp_drive.specs.Shape.{Shape}
use Rattle.mscp_drive.proofs.Found.{found_at}
use Rattle.mscp_drive.proofs.units.Units.find.Goals as goal

pub returns-then-number : goal.returns-then-number
returns-then-number c =
    let us = c.list-units.result.now in
    let inside = c.if-likely-units.true in
    let one = c.index-units-likely in
    let u = c.index-units-likely-then-number in
    let same = one.is ∙ (get_or_default us c.from-likely.result one.result u.result inside ∙ sym u.is) in
    sym (ap (λ us. unit_found us c.args.number) (sym c.list-units.ensures.value)
    ∙ found_at us c.from-likely.result c.args.number u.result
    (subst (λ us. NumbersRise us) (sym c.list-units.ensures.value)
    c.list-units.ensures.valid.rising) inside u.is
    (ap (λ (s : Shape). s.number) (sym same) ∙ (sym c.number.ensures ∙ c.if-number.true)))
