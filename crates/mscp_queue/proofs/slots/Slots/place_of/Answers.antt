use Rattle.mscp_queue.proofs.Basics.{◌≡◌, ◌<◌, true, length, ap, sym, subst, ◌∙◌, arith, get_or_default, item_at, long_shown, slot_at}
use Rattle.mscp_queue.proofs.Common.{has_name}
use Rattle.mscp_queue.proofs.Bucketed.{none_named, number_in, searches_on}
use Rattle.mscp_queue.proofs.Counted.{place_counted}
use Rattle.mscp_queue.proofs.slots.Slots.place_of.Goals as goal

pub returns-then-has_name-clause-some : goal.returns-then-has_name-clause-some
returns-then-has_name-clause-some c =
    let s = c.self.inside in
    let now = c.args.self.now in
    let kept = c.self.invariant.kept in
    let slot = c.in-Some.ensures.some in
    let at = number_in s.dues now c.self.invariant c.self.view_is c.args.name c.loop-slot.left c.loop-slot.invariant
    c.in-Some.slot slot.0 slot.1 in
    let place = c.place.ensures.value ∙ place_counted kept.masks at.1 c.place.ensures.small in
    let long = long_shown s.records s.targets s.dues s.order.items now c.self.view_is in
    let inside : at.0 < length now = let l = at.1.inside in omega (arith, l, long) in (
      omega (arith, place, inside),
      subst (λ p. has_name c.args.name (slot_at now p).item ≡ true) (sym place)
          (ap (has_name c.args.name) (sym (item_at s.dues now c.index-self-slot.result kept c.self.view_is inside at.1))
          ∙ (sym c.has_name.ensures ∙ c.if-has_name.true)),
    )

pub loop-slot-preserved : goal.loop-slot-preserved
loop-slot-preserved c = search (arith, searches_on, get_or_default)

pub returns-clause-none : goal.returns-clause-none
returns-clause-none c = search (arith, none_named)
