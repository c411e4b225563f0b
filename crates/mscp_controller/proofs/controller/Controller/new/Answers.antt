use Rattle.mscp_controller.proofs.Bridge.Keeping.{held_fresh}
use Rattle.mscp_controller.proofs.controller.Controller.new.Goals as goal

pub invariant_of-result : goal.invariant_of-result
invariant_of-result g c = held_fresh
    c.args.config c.units.result.now c.room.result c.budget.result c.longest.result c.args.picker c.new-queue.result
    c.new.result c.room.ensures.valid c.units.ensures.value
    c.room.ensures.value c.budget.ensures.value c.longest.ensures.value c.new-queue.ensures c.new.ensures
