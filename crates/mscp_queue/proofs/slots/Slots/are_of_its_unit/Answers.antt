use Rattle.mscp_queue.proofs.Basics.{arith, number_of}
use Rattle.mscp_queue.proofs.Fallen.{of_unit_behind}
use Rattle.mscp_queue.proofs.slots.Slots.are_of_its_unit.Goals as goal

pub bounds-self-inside-slot : goal.bounds-self-inside-slot
bounds-self-inside-slot c = (number_of c.self.inside.dues
    c.args.self.now c.self.invariant.kept c.self.view_is c.requires c.from-slot.ensures c.deref.ensures.0).low

pub is_last_unit-requires : goal.is_last_unit-requires
is_last_unit-requires c = search (arith, number_of)

pub returns : goal.returns
returns c = search (arith, number_of, of_unit_behind)
