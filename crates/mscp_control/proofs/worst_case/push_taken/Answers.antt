use Rattle.mscp_control.proofs.Common.{[], ◌∷◌, ◌++◌, ◌∙◌, Some}
use Rattle.mscp_drive.specs.declared.event.Event.TheVariants as events
use Rattle.mscp_controller.specs.declared.entry.Entry.TheVariants as entries
use Rattle.mscp_control.proofs.worst_case.push_taken.Goals as goal

pub returns-clause-items : goal.returns-clause-items
returns-clause-items g c =
    let via = c.args.connection in
    c.push.ensures.items ∙ (λ i. c.args.trace.now.items
    ++ (events.Take via, entries.Taken via (Some (record { items = c.write_end.ensures.bytes i }))) ∷ [])
