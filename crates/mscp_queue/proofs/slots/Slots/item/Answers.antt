use Rattle.mscp_queue.proofs.Basics.{ap, ◌∙◌, arith, get_or_default, Slot, no_record, number_of, slot_is}
use Rattle.mscp_queue.proofs.slots.Slots.item.Goals as goal

pub listed : goal.listed
listed c =
    let n = number_of c.self.inside.dues c.args.self.now c.self.invariant.kept c.self.view_is c.requires c.from.ensures
    c.deref.ensures.0 in
    omega (arith, n.low, c.self.invariant.kept.records_64)

pub bounds-self-inside-from : goal.bounds-self-inside-from
bounds-self-inside-from c = (number_of c.self.inside.dues
    c.args.self.now c.self.invariant.kept c.self.view_is c.requires c.from.ensures c.deref.ensures.0).low

pub returns : goal.returns
returns c =
    let s = c.self.inside in
    let n = number_of
    c.self.inside.dues c.args.self.now c.self.invariant.kept c.self.view_is c.requires c.from.ensures
    c.deref.ensures.0 in
    get_or_default s.records c.from.result
    c.index-self-from.result no_record (omega (arith, n.low, c.self.invariant.kept.records_64)) ∙ ap
    (λ (q : Slot). q.item)
    (slot_is s.records s.targets s.dues s.order.items c.args.self.now c.args.place _ c.self.view_is c.requires n.is)
