use Rattle.mscp_queue.proofs.Basics.{◌<◌, get_or, length, ⊎_elim, arith, ap, sym, ◌∙◌, subst, refl, length-map, long_shown, kind_of}
use Rattle.mscp_queue.proofs.Common.{IsOpenOn, kinds, bit_at}
use Rattle.mscp_queue.proofs.Counted.{place_counted}
use Rattle.mscp_queue.proofs.Best.{best_none}
use Rattle.mscp_queue.proofs.Fronts.{less_left}
use Rattle.mscp_queue.proofs.Seeking.{among, cost_found, early, found, is_better, is_worse, lows, ones, number_sought, seeks_better, seeks_first, seeks_on, sought, within}
use Rattle.mscp_queue.specs.Starts.{Start}
use Rattle.mscp_queue.proofs.slots.Slots.favorite.Goals as goal

-- where no bit of the front is set no command is open
pub returns-in_default : goal.returns-in_default
returns-in_default c =
    let s = c.self.inside in
    let now = c.args.self.now in
    let long = long_shown s.records s.targets s.dues s.order.items now c.self.view_is in
    best_none c.none.result c.none.ensures (λ p o.
    let inside : p < length s.order.items = grind (arith, length-map) in
    let lows = lows s.dues now c.self.invariant.kept c.self.view_is in
    ⊎_elim (λ on. let off = c.in_default.ensures.none (get_or s.order.items p 0) (lows p inside) in
    omega (arith, on, off))
    (λ x. let on = x.2 in let off = c.in_default.ensures.none (get_or s.order.items x.0 0) (lows x.0 x.1) in
    omega (arith, on, off))
    (among s.dues now c.self.invariant c.self.view_is c.args.drive.now p c.front.ensures c.near_of-near.ensures
    c.requires.to c.requires.head o inside))

pub cost-least-requires-clause-target : goal.cost-least-requires-clause-target
cost-least-requires-clause-target c = λ e.
    let s = c.self.inside in
    let first = c.in-Some.ensures.some in
    within s.dues c.args.self.now c.self.invariant.kept c.self.view_is c.args.drive.now c.in-Some.first c.requires.to
    (found s.dues c.args.self.now c.self.invariant.kept c.self.view_is c.in-Some.first c.front.ensures first.0
    (c.near_of-near.ensures.to c.in-Some.first first).1)

pub loop-slot-init : goal.loop-slot-init
loop-slot-init c =
    let s = c.self.inside in
    let now = c.args.self.now in
    let first = c.in-Some.ensures.some in
    let f = found s.dues now c.self.invariant.kept c.self.view_is c.in-Some.first c.front.ensures first.0
    (c.near_of-near.ensures.to c.in-Some.first first).1 in
    seeks_first c.with_bit-left.result c.in-Some.first c.cost-least.result
    f.place f.inside f.number first.0 first.1 c.with_bit-left.ensures.set
    (cost_found s.dues now c.self.invariant.kept c.self.view_is c.args.drive.now c.in-Some.first c.cost-least.result
    c.has_bit.result f first.0 c.has_bit.ensures c.cost-least.ensures.value) c.cost-least.ensures.small
    (lows s.dues now c.self.invariant.kept c.self.view_is) (ones s.dues now c.self.invariant.kept c.self.view_is)

pub cost-cost-requires-clause-target : goal.cost-cost-requires-clause-target
cost-cost-requires-clause-target c = λ e.
    let s = c.self.inside in
    let slot = c.in-Some-lowest_set.ensures.some in
    within s.dues c.args.self.now c.self.invariant.kept c.self.view_is c.args.drive.now c.in-Some-lowest_set.slot
    c.requires.to
    (found s.dues c.args.self.now c.self.invariant.kept c.self.view_is c.in-Some-lowest_set.slot c.front.ensures slot.0
    (c.near_of-near.ensures.to c.in-Some-lowest_set.slot (
      slot.0,
      c.loop-slot.invariant.of_left c.in-Some-lowest_set.slot
          slot.0 slot.1,
    )).1)

pub starts_before-requires-clause-other : goal.starts_before-requires-clause-other
starts_before-requires-clause-other c =
    search (arith, lows, c.self.inside, c.loop-slot.invariant, c.self.invariant.kept, c.self.view_is)

pub loop-slot-smaller-then-starts_before : goal.loop-slot-smaller-then-starts_before
loop-slot-smaller-then-starts_before c = less_left c.loop-slot.left _ c.in-Some-lowest_set.slot
    c.in-Some-lowest_set.ensures.some.0 c.in-Some-lowest_set.ensures.some.1
    c.with_bit-left-in-Some-lowest_set.ensures.set (c.with_bit-left-in-Some-lowest_set.ensures.fewer refl)

pub loop-slot-smaller : goal.loop-slot-smaller
loop-slot-smaller c = less_left c.loop-slot.left _ c.in-Some-lowest_set.slot
    c.in-Some-lowest_set.ensures.some.0 c.in-Some-lowest_set.ensures.some.1
    c.with_bit-left-in-Some-lowest_set.ensures.set (c.with_bit-left-in-Some-lowest_set.ensures.fewer refl)

pub loop-slot-preserved-then-starts_before : goal.loop-slot-preserved-then-starts_before
loop-slot-preserved-then-starts_before c =
    let s = c.self.inside in
    let now = c.args.self.now in
    let h = c.loop-slot.invariant in
    let slot = c.in-Some-lowest_set.ensures.some in
    let f = found s.dues now c.self.invariant.kept c.self.view_is c.in-Some-lowest_set.slot c.front.ensures slot.0
    (c.near_of-near.ensures.to c.in-Some-lowest_set.slot (
      slot.0,
      h.of_left c.in-Some-lowest_set.slot slot.0
          slot.1,
    )).1 in
    let bits = ap (λ n. bit_at (get_or s.masks.earlier n 0) c.in-Some-lowest_set.slot) h.number
    ∙ (ap (bit_at (get_or s.masks.earlier (get_or s.order.items h.place 0) 0)) f.number
    ∙ early s.dues now c.self.invariant.kept c.self.view_is h.place f.place h.inside f.inside) in
    seeks_better c.in-Some-lowest_set.slot c.with_bit-left-in-Some-lowest_set.result c.cost-cost.result f.place h
    f.inside f.number slot.0 slot.1 c.with_bit-left-in-Some-lowest_set.ensures.set
    (cost_found s.dues now c.self.invariant.kept c.self.view_is c.args.drive.now c.in-Some-lowest_set.slot
    c.cost-cost.result
    c.has_bit-in-Some-lowest_set.result f slot.0 c.has_bit-in-Some-lowest_set.ensures c.cost-cost.ensures.value)
    (lows s.dues now c.self.invariant.kept c.self.view_is) (ones s.dues now c.self.invariant.kept c.self.view_is)
    (is_better c.cost-cost.result c.loop-slot.least _ h.place f.place bits
    (sym c.starts_before.ensures ∙ c.if-starts_before.true)) c.cost-cost.ensures.small

pub loop-slot-preserved : goal.loop-slot-preserved
loop-slot-preserved c =
    let s = c.self.inside in
    let now = c.args.self.now in
    let h = c.loop-slot.invariant in
    let slot = c.in-Some-lowest_set.ensures.some in
    let f = found s.dues now c.self.invariant.kept c.self.view_is c.in-Some-lowest_set.slot c.front.ensures slot.0
    (c.near_of-near.ensures.to c.in-Some-lowest_set.slot (
      slot.0,
      h.of_left c.in-Some-lowest_set.slot slot.0
          slot.1,
    )).1 in
    let bits = ap (λ n. bit_at (get_or s.masks.earlier n 0) c.in-Some-lowest_set.slot) h.number
    ∙ (ap (bit_at (get_or s.masks.earlier (get_or s.order.items h.place 0) 0)) f.number
    ∙ early s.dues now c.self.invariant.kept c.self.view_is h.place f.place h.inside f.inside) in
    seeks_on c.in-Some-lowest_set.slot c.with_bit-left-in-Some-lowest_set.result c.cost-cost.result f.place h
    f.inside f.number slot.0 slot.1 c.with_bit-left-in-Some-lowest_set.ensures.set
    (cost_found s.dues now c.self.invariant.kept c.self.view_is c.args.drive.now c.in-Some-lowest_set.slot
    c.cost-cost.result
    c.has_bit-in-Some-lowest_set.result f slot.0 c.has_bit-in-Some-lowest_set.ensures c.cost-cost.ensures.value)
    (lows s.dues now c.self.invariant.kept c.self.view_is) (ones s.dues now c.self.invariant.kept c.self.view_is)
    (is_worse c.cost-cost.result c.loop-slot.least _ h.place f.place bits
    (sym c.starts_before.ensures ∙ c.if-starts_before.false))

pub place-requires : goal.place-requires
place-requires c = search (arith, lows)

pub of-requires-clause-cost : goal.of-requires-clause-cost
of-requires-clause-cost c = (let small = c.loop-slot.invariant.small in omega (arith, small))

pub of-requires-clause-place : goal.of-requires-clause-place
of-requires-clause-place c =
    let s = c.self.inside in
    let h = c.loop-slot.invariant in
    let number = number_sought h (lows s.dues c.args.self.now c.self.invariant.kept c.self.view_is) in
    let place = c.place.ensures.value ∙ place_counted c.self.invariant.kept.masks number c.place.ensures.small in
    let inside = h.inside in
    let few = c.requires.few in
    let long = long_shown s.records s.targets s.dues s.order.items c.args.self.now c.self.view_is in
    omega (arith, place, inside, few, long)

pub returns : goal.returns
returns c =
    let s = c.self.inside in
    let now = c.args.self.now in
    let order = s.order.items in
    let h = c.loop-slot.invariant in
    let long = long_shown s.records s.targets s.dues order now c.self.view_is in
    let number = number_sought h (lows s.dues now c.self.invariant.kept c.self.view_is) in
    let place = c.place.ensures.value ∙ place_counted c.self.invariant.kept.masks number c.place.ensures.small in
    let f = found s.dues now c.self.invariant.kept c.self.view_is c.loop-slot.best c.front.ensures number.low
    (c.near_of-near.ensures.to c.loop-slot.best (number.low, h.on)).1 in
    let same = ones s.dues now c.self.invariant.kept c.self.view_is f.place h.place f.inside h.inside
    (sym f.number ∙ h.number) in
    sought _ h (let few = c.requires.few in omega (arith, long, few))
    (subst (IsOpenOn (kinds now) c.args.at) same f.opens) (λ p o. (
      (let l = o.inside in omega (arith, l, long, length-map now kind_of)),
      among s.dues now c.self.invariant c.self.view_is c.args.drive.now p c.front.ensures c.near_of-near.ensures
          c.requires.to c.requires.head o (let l = o.inside in omega (arith, l, long, length-map now kind_of)),
    )) (lows s.dues now c.self.invariant.kept c.self.view_is) c.in_default-lowest_set.ensures.none
    (ap (λ (s : Start). s.place) c.of.ensures ∙ place) (ap (λ (s : Start). s.cost) c.of.ensures)
