use Rattle.mscp_queue.proofs.Common.{◌≡◌, ℕ, ◌∙◌, ◌<◌, List, ap, subst, sym, length, get_or, arith, length-map, Drive, Choice, Record, open_places, view_of}
use Rattle.mscp_queue.proofs.Picked.{picked, place_inside}
use Rattle.mscp_queue.proofs.Starting.{places_inside, some_place}
use Rattle.mscp_queue.proofs.start.picked_place.Goals as goal

pub returns-then-may_all_pass-clause-inside : goal.returns-then-may_all_pass-clause-inside
returns-then-may_all_pass-clause-inside g c = place_inside c.args.backlog.now.budget c.args.drives.now
    c.args.backlog.now.waiting (c.may_all_pass.ensures c.if-may_all_pass.true) c.best_place.result
    c.best_place.ensures.first

pub returns-then-may_all_pass-clause-picked : goal.returns-then-may_all_pass-clause-picked
returns-then-may_all_pass-clause-picked g c =
    let p = picked c.args.backlog.now.budget c.args.drives.now c.args.backlog.now.waiting
    (c.may_all_pass.ensures c.if-may_all_pass.true) c.best_place.result c.best_place.ensures.first in
    (p.0, p.1, p.2, c.takes_cheapest.ensures c.if-takes_cheapest.true _ p.0 p.3)

-- else the picker picks one of those that may start
record IsChosen (budget i : ℕ) (rs : List Record) (view : List Choice) : Type 0 where
  some : 0 < length view
  below : i < length (open_places budget rs)

chosen : (budget i : ℕ) (ds : List Drive) (rs : List Record) (view : List Choice)
    → 0 < length rs → view ≡ view_of budget ds rs → (0 < length view → i < length view) → IsChosen budget i rs view
chosen budget i ds rs view l is place = search (arith, length-map, some_place)

pub returns-clause-inside : goal.returns-clause-inside
returns-clause-inside g c =
    let b = c.args.backlog.now.budget in
    let rs = c.args.backlog.now.waiting in
    let pick = chosen
    b c.pick-2.result c.args.drives.now rs _ c.requires.some c.show_each-places.ensures.view c.pick-2.ensures.place in
    subst (λ k. k < length rs) (sym (c.from.ensures ∙ ap (λ ps. get_or ps c.pick-2.result 0)
    (c.deref.ensures.0 ∙ c.show_each-places.ensures.places))) (places_inside b rs c.pick-2.result 0 pick.below)

pub returns-clause-picked : goal.returns-clause-picked
returns-clause-picked g c =
    let b = c.args.backlog.now.budget in
    let rs = c.args.backlog.now.waiting in
    let picks = g.K.Picker.picks c.args.picker.now in
    let pick = chosen b c.pick-2.result c.args.drives.now rs _ c.requires.some c.show_each-places.ensures.view
    c.pick-2.ensures.place in
    let is = c.from.ensures ∙ ap (λ ps. get_or ps c.pick-2.result 0) (c.deref.ensures.0
    ∙ c.show_each-places.ensures.places) in (
      c.pick-2.result,
      pick.below,
      sym is,
      subst (λ view. picks view c.pick-2.result) c.show_each-places.ensures.view (c.pick-2.ensures.allowed pick.some),
    )
