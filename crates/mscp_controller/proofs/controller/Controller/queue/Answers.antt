use Rattle.mscp_controller.proofs.Bridge.Basics.{common_steps, arith, ◌≡◌, ◌≤◌, false, subst, sym, holds, Holdings, balance_of, outstanding_of, none_waits, free_seen, room_left}
use Rattle.mscp_controller.proofs.controller.Controller.queue.Goals as goal

pub push-requires-clause-room : goal.push-requires-clause-room
push-requires-clause-room g c =
    let K = g.row.K.Denot in
    room_left c.args.connection c.self.invariant
    (free_seen c.self.inside.config c.self.inside.queue.waiting c.args.connection 2 c.self.inside.accounts
    (subst (λ (h : Holdings K). 2 ≤ balance_of c.args.connection h) (sym c.self.view_is) c.requires.free))

pub push-requires-clause-apart : goal.push-requires-clause-apart
push-requires-clause-apart g c =
    let K = g.row.K.Denot in
    none_waits c.self.inside.queue.waiting c.args.connection _ c.args.command.now.reference
    (subst (λ (h : Holdings K). holds (outstanding_of c.args.connection h) c.args.command.now.reference ≡ false)
    (sym c.self.view_is) c.requires.new)

pub push-requires-clause-weight : goal.push-requires-clause-weight
push-requires-clause-weight g c = grind (arith, common_steps)

pub push-requires-clause-waitable : goal.push-requires-clause-waitable
push-requires-clause-waitable g c = grind (arith, common_steps)

pub come-requires : goal.come-requires
come-requires g c = grind (arith, common_steps)

pub invariant_of-self : goal.invariant_of-self
invariant_of-self g c = grind (arith, common_steps)

pub returns-clause-after : goal.returns-clause-after
returns-clause-after g c = grind (arith, common_steps)

pub returns-clause-account : goal.returns-clause-account
returns-clause-account g c = grind (arith, common_steps)
