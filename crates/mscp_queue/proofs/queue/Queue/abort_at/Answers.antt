use Rattle.mscp_queue.proofs.Basics.{inl, suc, ◌++◌, arith, ◌≡◌, ◌+◌, ◌<◌, length, take, drop, ap, sym, subst, ◌∙◌, refl, position, begun_name, Line, aborting, has_name, name_of, record_at, true, length-map, Command, Drive, Record, Target, drive_place}
use Rattle.mscp_queue.proofs.Common.{commands}
use Rattle.mscp_queue.proofs.Favored.{command_is}
use Rattle.mscp_queue.proofs.Gone.{favored_served}
use Rattle.mscp_queue.proofs.Unmoved.{map_cut}
use Rattle.mscp_queue.proofs.Aborts.{aborts_at}
use Rattle.mscp_queue.proofs.Nexts.{begun_left, name_found}
use Rattle.mscp_queue.proofs.Ready.{drive_found, others_at, ready_left}
use Rattle.mscp_queue.proofs.queue.Queue.abort_at.Goals as goal

pub take_out-requires-clause-front : goal.take_out-requires-clause-front
take_out-requires-clause-front g c = λ e.
    let K = g.row.K.Denot in
    let inside = subst (λ (l : Line K). c.args.place < length l.waiting) (sym c.self.view_is) c.requires in
    (others_at c.args.place c.self.invariant.ready.held inside e).0

pub take_out-requires-clause-back : goal.take_out-requires-clause-back
take_out-requires-clause-back g c = λ e.
    let K = g.row.K.Denot in
    let inside = subst (λ (l : Line K). c.args.place < length l.waiting) (sym c.self.view_is) c.requires in
    (others_at c.args.place c.self.invariant.ready.held inside e).1

pub invariant_of-self : goal.invariant_of-self
invariant_of-self g c =
    let K = g.row.K.Denot in
    let inside = subst (λ (l : Line K). c.args.place < length l.waiting) (sym c.self.view_is) c.requires in
    let e = c.take_out.ensures in
    let q = c.self.inside in
    let ready = c.self.invariant.ready in
    let rs = q.backlog.waiting in
    let place = c.args.place in
    let found = drive_found q.backlog.targets place _ ready.held ready.targeted inside
    (c.from-at.ensures ∙ ap (λ (a : Target). a.drive) c.target.ensures) in
    let fits = ready.held.fits in
    let few = ready.held.few in
    let many = length-map rs (λ (r : Record). r.command) in
    record {
      ready = ready_left place ready
          inside e.budget e.waiting e.targets c.without_place-self-inside.ensures c.without_place-self-inside-2.ensures;
      favored = favored_served ready.held.units place c.from-at.result (omega (arith, inside, many))
          (omega (arith, many, fits, few))
          (found.placed ∙ ap (λ (c : Command). drive_place q.drives.items c.unit) (sym
          (command_is rs place inside))) true true (inl refl)
          c.self.invariant.favored refl
          (λ k d. refl) (ap commands e.waiting ∙ sym (map_cut (λ (r : Record). r.command) rs place))
          c.serve.ensures.own
          (λ k l. c.serve.ensures.others k (omega (arith, l, c.len.ensures)));
    }

pub returns-clause-after : goal.returns-clause-after
returns-clause-after g c =
    let K = g.row.K.Denot in
    let q = c.self.inside in
    let rs = q.backlog.waiting in
    let place = c.args.place in
    let inside = subst (λ (l : Line K). place < length l.waiting) (sym c.self.view_is) c.requires in
    let apart = c.self.invariant.ready.held.apart in
    let name = name_of (record_at rs place) in
    let e = c.take_out.ensures in
    let next : place + 1 ≡ suc place = omega arith in
    (λ i. record {
      room = q.room;
      budget = e.budget i;
      longest = q.longest;
      waiting = (e.waiting ∙ ap (λ k. take place rs ++ drop k rs) next ∙ (aborts_at name
          rs place apart (name_found rs name place (position (has_name name) rs) apart inside refl refl)).left) i;
      drives = q.drives.items;
      begun = (ap (begun_name c.take_out.new.self.waiting) c.without_place-self-inside.ensures ∙ sym (begun_left rs
          c.take_out.new.self.waiting q.begun place apart inside e.waiting c.self.invariant.ready.waits)) i;
      picker = q.picker;
    }) ∙ ap (λ (l : Line K). aborting (name_of (record_at l.waiting place)) l) c.self.view_is

pub serve-requires-clause-drive : goal.serve-requires-clause-drive
serve-requires-clause-drive g c =
    let K = g.row.K.Denot in
    let ready = c.self.invariant.ready in
    let inside = subst (λ (l : Line K). c.args.place < length l.waiting) (sym c.self.view_is) c.requires in
    let found = drive_found c.self.inside.backlog.targets c.args.place _ ready.held ready.targeted inside
    (c.from-at.ensures ∙ ap (λ (a : Target). a.drive) c.target.ensures) in
    let below = found.inside in
    let few = ready.held.units.few in
    omega (arith, below, few, length-map c.self.inside.drives.items (λ (d : Drive). d.unit))
