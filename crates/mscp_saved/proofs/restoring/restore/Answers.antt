use Rattle.mscp_saved.proofs.Common.{◌∙◌, ap, sym, Ok, Holdings, held_in, unless}
use Rattle.mscp_saved.proofs.Faithful.{same_of}
use Rattle.mscp_saved.proofs.restoring.restore.Goals as goal

pub returns-clause-same : goal.returns-clause-same
returns-clause-same g c =
    let K = g.row.K.Denot in
    let b = c.args.bytes.now in
    let held = c.resume.ensures ∙ ap (λ (h : Holdings K). held_in h.picker b) c.new-controller.ensures.fresh in
    (same_of c.args.number c.args.picker c.resume.new.controller b
    (c.restore_fault.ensures.value ∙ (ap (unless (held_in c.args.picker b)) c.in_default.is ∙ ap Ok (sym held)))).0
