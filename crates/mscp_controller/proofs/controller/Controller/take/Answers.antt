use Rattle.mscp_controller.proofs.Bridge.Basics.{◌≡◌, ◌∙◌, ap, subst, sym, slice_get, IsEnd, of, Holdings, IsHeld, seen_of, some_same, held_taken, taken_kind}
use Rattle.mscp_controller.proofs.controller.Controller.take.Goals as goal

pub invariant_of-self-2 : goal.invariant_of-self-2
invariant_of-self-2 g c = subst (IsHeld c.self.inside.config c.self.inside.queue)
    (sym c.take.ensures.after) (held_taken c.args.connection c.self.invariant)

pub returns-clause-reads_back : goal.returns-clause-reads_back
returns-clause-reads_back g c = λ end e.
    let K = g.row.K.Denot in
    let via = c.args.connection in
    let own = c.in_ok-end.end in
    let seen = ap (λ (h : Holdings K). of via h.untaken) (sym c.self.view_is) ∙ seen_of via c.self.inside.accounts in
    let same : own ≡ end = some_same own end (c.in_ok-end.ensures.end ∙ (ap (λ es. slice_get es 0) (sym seen) ∙ e)) in
    subst (IsEnd c.write_end.result.items) same
    (c.write_end.ensures.reads_back (taken_kind _ own (sym c.in_ok-end.ensures.end)
    (c.self.invariant.account via).shaped))
