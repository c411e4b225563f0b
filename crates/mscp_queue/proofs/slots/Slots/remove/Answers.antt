use Rattle.mscp_queue.proofs.Basics.{◌∙◌, subst, ap, arith, get_or_default, Command, HasLeft, Record, kept_left, no_record, number_of, shown_left}
use Rattle.mscp_queue.proofs.Bucketed.{buckets_left}
use Rattle.mscp_queue.proofs.slots.Slots.remove.Goals as goal

pub listed : goal.listed
listed c =
    let n = number_of c.self.inside.dues
    c.args.self.now c.self.invariant.kept c.self.view_is c.requires c.from-slot.ensures c.deref.ensures.0 in
    omega (arith, n.low, c.self.invariant.kept.records_64)

pub bounds-self-inside-slot : goal.bounds-self-inside-slot
bounds-self-inside-slot c = (number_of c.self.inside.dues
    c.args.self.now c.self.invariant.kept c.self.view_is c.requires c.from-slot.ensures c.deref.ensures.0).low

pub leave-requires : goal.leave-requires
leave-requires c = (number_of c.self.inside.dues
    c.args.self.now c.self.invariant.kept c.self.view_is c.requires c.from-slot.ensures c.deref.ensures.0).low

pub bounds-self-inside-slot-2 : goal.bounds-self-inside-slot-2
bounds-self-inside-slot-2 c = (number_of c.self.inside.dues
    c.args.self.now c.self.invariant.kept c.self.view_is c.requires c.from-slot.ensures c.deref.ensures.0).low

pub leave-requires-2 : goal.leave-requires-2
leave-requires-2 c = search (arith, number_of)

pub invariant_of-self : goal.invariant_of-self
invariant_of-self c =
    let number = number_of c.self.inside.dues c.args.self.now
    c.self.invariant.kept c.self.view_is c.requires c.from-slot.ensures c.deref.ensures.0 in
    record {
      bucketed = buckets_left c.self.inside.records c.self.inside.order.items c.self.inside.buckets.slots _ _
          c.args.place c.from-slot.result c.command-reference.result.reference c.self.invariant.bucketed
          c.self.invariant.kept.masks.apart number
          (ap (λ (k : Command). k.reference) c.command-reference.ensures ∙ ap (λ (r : Record). r.command.reference)
          (get_or_default c.self.inside.records c.from-slot.result c.index-self-slot.result no_record
          (omega (arith, number.low, c.self.invariant.kept.records_64)))) c.leave.ensures c.remove.ensures.items;
      ranges_64 = c.self.invariant.ranges_64;
      ranged = c.self.invariant.ranged;
      kept = kept_left c.self.invariant.kept number (subst (λ d. HasLeft c.from-slot.result d c.self.inside.masks
          c.leave-2.new.self) c.from.ensures c.leave-2.ensures) c.remove.ensures.items;
    }

pub returns : goal.returns
returns c = search (arith, shown_left)
