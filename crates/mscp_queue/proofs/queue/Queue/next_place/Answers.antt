use Rattle.mscp_queue.proofs.Common.{◌≡◌, ap, subst, sym, arith, Some, begun_name, Line, name_of, record_at, IsNext}
use Rattle.mscp_queue.proofs.Nexts.{known_next, nobody_found, picked_next, serving_is_next}
use Rattle.mscp_queue.proofs.Ready.{can_be_shown}
use Rattle.mscp_queue.proofs.Starting.{first_picked}
use Rattle.mscp_queue.proofs.queue.Queue.next_place.Goals as goal

pub returns-in-Some-clause-some : goal.returns-in-Some-clause-some
returns-in-Some-clause-some g c =
    let q = c.self.inside in
    let place = c.in-Some.place in
    let ready = c.self.invariant.ready in
    let was = ready.served place c.in-Some.is in
    subst (λ (l : Line g.row.K.Denot). IsNext (g.K.Picker.picks l.picker) l.budget l.drives l.waiting l.begun place)
    c.self.view_is (serving_is_next (g.K.Picker.picks q.picker) q.backlog.budget q.drives.items
    q.backlog.waiting (begun_name q.backlog.waiting q.begun) place ready.held.one was.0 was.1 ready.held.still)

pub returns-in-Some-begun-clause-some : goal.returns-in-Some-begun-clause-some
returns-in-Some-begun-clause-some g c =
    let q = c.self.inside in
    let rs = q.backlog.waiting in
    let place = c.in-Some-begun.place in
    let name = name_of (record_at rs place) in
    let ready = c.self.invariant.ready in
    let begun : begun_name rs q.begun ≡ Some name = ap (begun_name rs) c.in-Some-begun.is in
    subst (λ (l : Line g.row.K.Denot). IsNext (g.K.Picker.picks l.picker) l.budget l.drives l.waiting l.begun place)
    c.self.view_is (subst (λ b. IsNext (g.K.Picker.picks q.picker) q.backlog.budget q.drives.items rs b place)
    (sym begun) (known_next (g.K.Picker.picks q.picker) q.backlog.budget
    q.drives.items rs place ready.held.apart (ready.waits place c.in-Some-begun.is) (ready.held.still name begun)))

pub returns-then-takes_first-clause-some : goal.returns-then-takes_first-clause-some
returns-then-takes_first-clause-some g c = search (arith, picked_next, nobody_found, first_picked)

pub picked_place-requires-clause-waiting : goal.picked_place-requires-clause-waiting
picked_place-requires-clause-waiting g c =
    search (arith, can_be_shown, c.as_slice.ensures.value, c.self.invariant.ready)

pub returns-clause-some : goal.returns-clause-some
returns-clause-some g c =
    let q = c.self.inside in
    let rs = q.backlog.waiting in
    let place = c.picked_place.result in
    subst (λ (l : Line g.row.K.Denot). IsNext (g.K.Picker.picks l.picker) l.budget l.drives l.waiting l.begun place)
    c.self.view_is (subst (λ ds. IsNext (g.K.Picker.picks q.picker) q.backlog.budget ds rs (begun_name rs q.begun)
    place) c.as_slice.ensures.value (picked_next (g.K.Picker.picks q.picker) q.backlog.budget c.as_slice.result.now
    rs (begun_name rs q.begun) place (ap (begun_name rs) c.in_default-begun.is) (nobody_found rs q.serving
    c.in_default.is c.self.invariant.ready.held.idle) c.picked_place.ensures.inside c.picked_place.ensures.picked))
