use Rattle.mscp_tracked.proofs.Common.{◌≡◌, ◌∙◌, sym, subst, IfSome, remove, unaborted, Tracking}
use Rattle.mscp_tracked.proofs.Keeping.{unaborted_is}
use Rattle.mscp_tracked.proofs.tracked.Tracked.place_aborted.Goals as goal

pub returns-clause-others : goal.returns-clause-others
returns-clause-others g c = λ command is.
    let K = g.row.K.Denot in
    let via = c.args.connection in
    let rs = c.self.inside.controller.waiting in
    subst (λ (t : Tracking K). IfSome c.place_of.result (λ place. remove t.controller.waiting place
    ≡ unaborted via t.controller.waiting command.order)) c.self.view_is
    (subst (λ ws. IfSome c.place_of.result (λ place. remove rs place ≡ ws))
    (unaborted_is via rs command.order c.in_ok-number_aborted.field-0
    (sym (c.number_aborted.ensures command is) ∙ c.in_ok-number_aborted.was)) c.place_of.ensures.others)
