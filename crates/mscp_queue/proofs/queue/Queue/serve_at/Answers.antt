use Rattle.mscp_queue.proofs.Basics.{◌≡◌, refill, set, arith, ◌<◌, length, get_or, ap, subst, sym, ◌∙◌, None, length-map, Command, Target, Drive, Served, replaced, units_of, Line, served, Record, drive_at, is_unstarted, record_at, plan_of, report_of, units_step}
use Rattle.mscp_queue.proofs.Ready.{IsDriveOf, can_serve, drive_found, left_is, ready_step}
use Rattle.mscp_queue.proofs.Shaped.{given_kind}
use Rattle.mscp_queue.proofs.Stepping.{favored_step, next_in, step_made}
use Rattle.mscp_queue.proofs.Turns.{StepMade}
use Rattle.mscp_queue.proofs.queue.Queue.serve_at.Given as given
use Rattle.mscp_queue.proofs.queue.Queue.serve_at.Goals as goal

pub bounds-deref-at : goal.bounds-deref-at
bounds-deref-at g c =
    let ready = c.self.invariant.ready in
    let servable = (next_in g.K.Picker.picks c.self.view_is c.requires).servable in
    let found = drive_found c.self.inside.backlog.targets c.args.place _ ready.held ready.targeted servable.inside
    (c.from-at.ensures ∙ ap (λ (a : Target). a.drive) c.target.ensures) in
    subst (λ l. c.from-at.result < length l) (sym c.deref.ensures.0) found.inside

pub bounds-deref_mut-at : goal.bounds-deref_mut-at
bounds-deref_mut-at g c =
    let ready = c.self.invariant.ready in
    let servable = (next_in g.K.Picker.picks c.self.view_is c.requires).servable in
    let found = drive_found c.self.inside.backlog.targets c.args.place _ ready.held ready.targeted servable.inside
    (c.from-at.ensures ∙ ap (λ (a : Target). a.drive) c.target.ensures) in
    subst (λ l. c.from-at.result < length l) (sym c.deref_mut.ensures.value) found.inside

pub serve-requires-clause-front : goal.serve-requires-clause-front
serve-requires-clause-front g c = (can_serve c.args.block.now
    c.self.invariant.ready.held ((next_in g.K.Picker.picks c.self.view_is c.requires).servable)).front

pub serve-requires-clause-back : goal.serve-requires-clause-back
serve-requires-clause-back g c = (can_serve c.args.block.now
    c.self.invariant.ready.held ((next_in g.K.Picker.picks c.self.view_is c.requires).servable)).back

pub serve-requires-clause-affordable : goal.serve-requires-clause-affordable
serve-requires-clause-affordable g c = (can_serve c.args.block.now
    c.self.invariant.ready.held ((next_in g.K.Picker.picks c.self.view_is c.requires).servable)).affordable

pub serve-requires-2-clause-place : goal.serve-requires-2-clause-place
serve-requires-2-clause-place g c = search (arith, next_in)

pub serve-requires-2-clause-drive : goal.serve-requires-2-clause-drive
serve-requires-2-clause-drive g c =
    let ready = c.self.invariant.ready in
    let servable = (next_in g.K.Picker.picks c.self.view_is c.requires).servable in
    let found = drive_found c.self.inside.backlog.targets c.args.place
    _ ready.held ready.targeted servable.inside (c.from-at.ensures ∙ ap (λ (a : Target). a.drive) c.target.ensures) in
    let inside = found.inside in
    let few = ready.held.units.few in
    omega (arith, inside, few, length-map c.self.inside.drives.items (λ (d : Drive). d.unit))

-- the drive of the record that is served, what is planned on it, and what the step makes of records and drives
found : (g : given.Over) (c : goal.After-report g)
    → IsDriveOf c.self.inside.drives.items c.self.inside.backlog.waiting c.args.place c.from-at.result
found g c = drive_found c.self.inside.backlog.targets c.args.place _ c.self.invariant.ready.held
    c.self.invariant.ready.targeted (next_in g.K.Picker.picks c.self.view_is c.requires).servable.inside
    (c.from-at.ensures ∙ ap (λ (a : Target). a.drive) c.target.ensures)

planned : (g : given.Over) (c : goal.After-report g) → c.of-plan.result ≡ plan_of c.args.block.now
    (drive_at c.self.inside.drives.items c.self.inside.backlog.waiting c.args.place)
    (record_at c.self.inside.backlog.waiting c.args.place)
planned g c =
    let d = c.index-deref-at.result in
    let drive = c.index-deref-at.is ∙ (ap (λ l. get_or l c.from-at.result d) c.deref.ensures.0
    ∙ (found g c).is d) in
    c.of-plan.ensures ∙ (λ i. plan_of c.args.block.now (drive i) (c.record.ensures i))

made : (g : given.Over) (c : goal.After-report g) → StepMade c.args.block.now c.args.place
    c.self.inside.backlog.waiting c.serve.new.self.waiting c.self.inside.drives.items
    (refill (length c.self.inside.drives.items) c.self.inside.drives.items
    (set c.deref_mut.result.now c.from-at.result c.follow.new.self)) c.is_some-ends.result
made g c = step_made c.args.block.now c.index-deref_mut-at.result c.self.invariant.ready.held
    (next_in g.K.Picker.picks c.self.view_is c.requires).servable (found g c) (planned g c)
    c.deref_mut.ensures.value c.follow.ensures (ap (λ (w : Command). w.order) c.command.ensures
    ∙ ap (λ (r : Record). r.command.order) c.record.ensures) c.is_some-ends.ensures c.serve.ensures.waiting

pub invariant_of-self : goal.invariant_of-self
invariant_of-self g c =
    let ready = c.self.invariant.ready in
    let servable = (next_in g.K.Picker.picks c.self.view_is c.requires).servable in
    record {
      ready = ready_step {new = c.serve.new.self}
          ready servable (made g c) c.serve.ensures.budget c.serve.ensures.targets c.place_served-self-inside.ensures;
      favored = favored_step ready.held servable (found g c) (made g c)
          c.self.invariant.favored c.moves_up-moves.ensures c.serve-2.ensures.own
          (λ k l. c.serve-2.ensures.others k (omega (arith, l, c.len-drives.ensures)));
    }

pub returns-clause-units : goal.returns-clause-units
returns-clause-units g c = units_step (made g c) c.self.invariant.ready.held.units
    ∙ ap (λ (l : Line g.row.K.Denot). units_of l.drives) c.self.view_is

pub returns-clause-shaped : goal.returns-clause-shaped
returns-clause-shaped g c = search (arith, next_in, given_kind)

pub returns-clause-served : goal.returns-clause-served
returns-clause-served g c =
    let place = c.args.place in
    let q = c.self.inside in
    let rs = q.backlog.waiting in
    let k = c.args.block.now in
    record {
      next = c.requires;
      told = c.report.ensures
          ∙ ((λ i. Served (c.record.ensures i).connection (c.record.ensures i).command.reference
          (c.record.ensures i).command.unit (planned g c i).lbn (is_unstarted (c.record.ensures i))
          (planned g c i).seek (planned g c i).ended)
          ∙ ap (λ (l : Line g.row.K.Denot).
          report_of k (drive_at l.drives l.waiting place) (record_at l.waiting place)) c.self.view_is);
      left = (λ i. record {
        room = q.room;
        budget = c.serve.ensures.budget i;
        longest = q.longest;
        waiting = (c.serve.ensures.waiting
            ∙ left_is k place rs (drive_at q.drives.items rs place) _ (made g c).ended) i;
        drives = ((made g c).drives
            ∙ ap (λ w. replaced (record_at rs place).command.unit w q.drives.items) (made g c).after) i;
        begun = None;
        picker = q.picker;
      }) ∙ ap (λ (l : Line g.row.K.Denot). served k l place) c.self.view_is;
    }
