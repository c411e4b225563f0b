use Rattle.mscp_queue.proofs.Basics.{arith, number_of}
use Rattle.mscp_queue.proofs.Fallen.{enough_behind, lowered_behind}
use Rattle.mscp_queue.proofs.slots.Slots.lower_behind.Goals as goal

pub behind-requires : goal.behind-requires
behind-requires c = (number_of c.self.inside.dues
    c.args.self.now c.self.invariant.kept c.self.view_is c.requires.place c.from-slot.ensures c.deref.ensures.0).low

pub lower-requires : goal.lower-requires
lower-requires c = search (arith, number_of, enough_behind)

pub returns : goal.returns
returns c = search (arith, number_of, lowered_behind)
