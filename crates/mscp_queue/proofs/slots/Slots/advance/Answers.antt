use Rattle.mscp_queue.proofs.Basics.{arith, get_or_default, item_at, item_set, kept_advanced, number_of}
use Rattle.mscp_queue.proofs.Bucketed.{buckets_kept}
use Rattle.mscp_queue.proofs.slots.Slots.advance.Goals as goal

pub listed : goal.listed
listed c =
    let n = number_of c.self.inside.dues
    c.args.self.now c.self.invariant.kept c.self.view_is c.requires.place c.from-slot.ensures c.deref.ensures.0 in
    omega (arith, n.low, c.self.invariant.kept.records_64)

pub bounds-self-inside-slot : goal.bounds-self-inside-slot
bounds-self-inside-slot c = (number_of c.self.inside.dues
    c.args.self.now c.self.invariant.kept c.self.view_is c.requires.place c.from-slot.ensures c.deref.ensures.0).low

pub advance-requires : goal.advance-requires
advance-requires c = search (arith, number_of, item_at)

pub invariant_of-self : goal.invariant_of-self
invariant_of-self c =
    let n = number_of c.self.inside.dues
    c.args.self.now c.self.invariant.kept c.self.view_is c.requires.place c.from-slot.ensures c.deref.ensures.0 in
    record {
      ranges_64 = c.self.invariant.ranges_64;
      ranged = c.self.invariant.ranged;
      bucketed = grind (arith, buckets_kept, get_or_default);
      kept = kept_advanced c.index-self-slot.result c.self.invariant.kept n.low c.advance.ensures;
    }

pub returns : goal.returns
returns c = search (arith, number_of, item_set)
