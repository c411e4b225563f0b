use Rattle.mscp_queue.proofs.Basics.{ap, Slot, number_of, slot_is}
use Rattle.mscp_queue.proofs.slots.Slots.target.Goals as goal

pub bounds-self-inside-from : goal.bounds-self-inside-from
bounds-self-inside-from c = (number_of c.self.inside.dues
    c.args.self.now c.self.invariant.kept c.self.view_is c.requires c.from.ensures c.deref.ensures.0).low

pub returns : goal.returns
returns c =
    let s = c.self.inside in
    ap (λ (q : Slot). q.target) (slot_is s.records s.targets
    s.dues s.order.items c.args.self.now c.args.place _ c.self.view_is c.requires (number_of c.self.inside.dues
    c.args.self.now c.self.invariant.kept c.self.view_is c.requires c.from.ensures c.deref.ensures.0).is)
