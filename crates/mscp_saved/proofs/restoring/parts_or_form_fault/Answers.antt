use Rattle.mscp_saved.proofs.Common.{◌≡◌, ◌∙◌, ap, sym, Option, None, Name, Holdings, made_of, RestoreFault, begun_in, first_of, form_fault, form_unless, parts_fault, saved_bytes}
use Rattle.mscp_saved.proofs.restoring.parts_or_form_fault.Goals as goal

pub returns-clause-fault : goal.returns-clause-fault
returns-clause-fault c =
    let a = c.args in
    let made : Option Name
    → Holdings (Unit {0}) = λ g. made_of a.config.now a.waiting.now a.first.now a.second.now a.drives.now g (tt {0}) in
    let none : parts_fault a.config.now a.drives.now a.waiting.now a.first.now a.second.now (begun_in a.b.now) ≡ None =
    sym (ap (parts_fault a.config.now a.drives.now a.waiting.now a.first.now a.second.now) c.begun_in-begun.ensures)
    ∙ (sym c.parts_fault.ensures.fault ∙ c.in_default.is) in
    c.form_fault.ensures ∙ (ap (form_unless a.number a.b.now) (c.as_slice.ensures.value ∙ (c.save_parts.ensures ∙ ap
    (λ (g : Option Name). saved_bytes a.number (made g)) c.begun_in-begun.ensures))
    ∙ sym (ap (λ (o : Option RestoreFault). first_of o (form_fault a.number a.b.now (made (begun_in a.b.now)))) none))
