use Rattle.mscp_controller.proofs.Common.{◌∙◌, ap, subst, sym, Holdings, balance_of, IsHeld}
use Rattle.mscp_controller.proofs.Bridge.Keeping.{balance_left, can_leave, held_aborted}
use Rattle.mscp_controller.proofs.controller.Controller.abort.Goals as goal

pub leave-requires-clause-some : goal.leave-requires-clause-some
leave-requires-clause-some g c =
    (can_leave c.args.connection _ c.self.invariant c.in_ok-end.ensures.after c.in_ok-end.ensures.count).0

pub leave-requires-clause-room : goal.leave-requires-clause-room
leave-requires-clause-room g c =
    (can_leave c.args.connection _ c.self.invariant c.in_ok-end.ensures.after c.in_ok-end.ensures.count).1

pub invariant_of-self-2 : goal.invariant_of-self-2
invariant_of-self-2 g c =
    subst (IsHeld c.self.inside.config c.abort.new.self) (sym c.leave.ensures) (held_aborted c.args.connection
    _ c.in_ok-end.end c.self.invariant c.in_ok-end.ensures.after c.in_ok-end.ensures.count c.in_ok-end.ensures.shaped)

pub returns-clause-balance : goal.returns-clause-balance
returns-clause-balance g c =
    let K = g.row.K.Denot in
    balance_left c.self.inside.config c.self.inside.queue c.abort.new.self c.self.inside.accounts c.leave.new.self
    c.args.connection _ c.in_ok-end.end c.in_ok-end.ensures.after c.in_ok-end.ensures.count c.leave.ensures
    ∙ ap (λ (h : Holdings K). balance_of c.args.connection h) c.self.view_is
