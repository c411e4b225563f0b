use Rattle.mscp_controller.proofs.Common.{subst, sym, First, Second, IsHeld}
use Rattle.mscp_controller.proofs.Bridge.Keeping.{balanced, can_end, held_stepped}
use Rattle.mscp_controller.proofs.controller.Controller.step.Goals as goal

pub keep_end-requires : goal.keep_end-requires
keep_end-requires g c = can_end c.self.inside.config (g.K.Picker.picks c.self.inside.queue.picker) c.args.block
    c.self.inside.queue c.serve-report.result c.serve-report.new.self c.self.inside.accounts c.self.invariant
    c.serve-report.ensures.served

pub invariant_of-self : goal.invariant_of-self
invariant_of-self g c = subst (IsHeld c.self.inside.config c.serve-report.new.self)
    (sym c.keep_end.ensures) (held_stepped c.self.inside.config (g.K.Picker.picks c.self.inside.queue.picker)
    c.args.block c.self.inside.queue c.serve-report.result c.serve-report.new.self c.self.inside.accounts
    c.self.invariant c.serve-report.ensures.served c.serve-report.ensures.units c.serve-report.ensures.shaped)

pub returns-clause-account : goal.returns-clause-account
returns-clause-account g c =
    let kept = held_stepped c.self.inside.config (g.K.Picker.picks c.self.inside.queue.picker) c.args.block
    c.self.inside.queue c.serve-report.result c.serve-report.new.self c.self.inside.accounts c.self.invariant
    c.serve-report.ensures.served c.serve-report.ensures.units c.serve-report.ensures.shaped in
    let new = subst (IsHeld c.self.inside.config c.serve-report.new.self) (sym c.keep_end.ensures) kept in
    record { first = balanced new First; second = balanced new Second }
