use Rattle.mscp_queue.proofs.Basics.{arith, get_or_default, number_of, unfenced_at}
use Rattle.mscp_queue.proofs.slots.Slots.is_free.Goals as goal

pub bounds-self-inside-slot : goal.bounds-self-inside-slot
bounds-self-inside-slot c = (number_of c.self.inside.dues
    c.args.self.now c.self.invariant.kept c.self.view_is c.requires c.from-slot.ensures c.deref.ensures.0).low

pub listed : goal.listed
listed c = search (arith, number_of)

pub bounds-self-inside-slot-2 : goal.bounds-self-inside-slot-2
bounds-self-inside-slot-2 c = search (arith, number_of)

pub is_free-requires : goal.is_free-requires
is_free-requires c = search (arith, number_of)

pub returns : goal.returns
returns c = search (arith, number_of, get_or_default, unfenced_at)
