use Rattle.mscp_queue.proofs.Basics.{length-set, ap, Command, arith, some_free, kept_pushed, long_shown, shown_pushed}
use Rattle.mscp_queue.proofs.Bucketed.{buckets_pushed}
use Rattle.mscp_queue.proofs.Shown.{lowest_untaken, untaken}
use Rattle.mscp_queue.proofs.Ranging.{ranges_pushed}
use Rattle.mscp_queue.proofs.slots.Slots.push.Goals as goal

pub lowest_free-slot-requires : goal.lowest_free-slot-requires
lowest_free-slot-requires c =
    let s = c.self.inside in
    some_free s.masks.waiting s.order.items c.self.invariant.kept.masks.of_waiting
    (omega (arith, c.requires.room, long_shown s.records s.targets s.dues s.order.items c.args.self.now c.self.view_is))

pub invariant_of-self : goal.invariant_of-self
invariant_of-self c = record {
  bucketed = buckets_pushed c.self.inside.records c.self.inside.order.items c.self.inside.buckets.slots _ _
      c.lowest_free-slot.result c.command.result.reference c.args.new.item c.self.invariant.bucketed
      (untaken c.self.invariant.kept c.lowest_free-slot.ensures) c.lowest_free-slot.ensures.low
      c.self.invariant.kept.records_64 (ap (λ (k : Command). k.reference) c.command.ensures) c.come.ensures
      c.push.ensures.items;
  ranges_64 = grind (arith, length-set);
  ranged = grind (arith, ranges_pushed);
  kept = kept_pushed c.args.new.item c.args.new.target
      c.self.invariant.kept c.lowest_free-slot.ensures c.requires.drive c.from.ensures c.is_sequential.ensures
      c.come-2.ensures c.push.ensures.items;
}

pub returns : goal.returns
returns c = search (arith, lowest_untaken, shown_pushed)
