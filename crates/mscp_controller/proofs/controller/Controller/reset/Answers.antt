use Rattle.mscp_controller.proofs.Common.{units_of}
use Rattle.mscp_controller.proofs.Bridge.Keeping.{held_fresh}
use Rattle.mscp_controller.proofs.controller.Controller.reset.Goals as goal

pub invariant_of-self : goal.invariant_of-self
invariant_of-self g c =
    let h = c.self.inside in
    let k = c.self.invariant in
    held_fresh h.config (units_of h.queue.drives) h.queue.room h.queue.budget h.queue.longest h.queue.picker
    c.reset.new.self c.clear.new.self k.valid k.units k.same_room k.same_budget k.same_longest
    c.reset.ensures c.clear.ensures
