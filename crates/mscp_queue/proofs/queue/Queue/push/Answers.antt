use Rattle.mscp_queue.proofs.Basics.{◌≡◌, ◌<◌, ◌++◌, ◌∷◌, [], false, length, ap, subst, sym, ◌∙◌, arith, list_any, length-append, length-map, map-append, Command, target_of, CanBeShown, IsWaitable, units_of, Line, name_on, Record, has_name, place_inside, range_low, held_small}
use Rattle.mscp_queue.proofs.Common.{AreFavored, commands, take_at}
use Rattle.mscp_queue.proofs.Ready.{can_be_shown, ready_pushed}
use Rattle.mscp_queue.proofs.queue.Queue.push.Goals as goal

pub push-requires-clause-drive : goal.push-requires-clause-drive
push-requires-clause-drive g c = search (arith, place_inside, length-map)

pub push-requires-clause-range : goal.push-requires-clause-range
push-requires-clause-range g c = search (arith, range_low)

pub push-requires-clause-small : goal.push-requires-clause-small
push-requires-clause-small g c = held_small c.self.invariant.ready.held

pub favor_last-requires-clause-some : goal.favor_last-requires-clause-some
favor_last-requires-clause-some g c = search (arith, length-append)

pub favor_last-requires-clause-waiting : goal.favor_last-requires-clause-waiting
favor_last-requires-clause-waiting g c =
    let K = g.row.K.Denot in
    let seen = sym c.self.view_is in
    let command : Command =
    record { reference = c.args.new.reference; unit = c.args.new.unit; order = c.args.new.order } in
    let e = c.push.ensures in
    subst (λ ds. CanBeShown ds c.push.new.self.waiting c.push.new.self.targets) (sym c.as_slice-2.ensures.value)
    (can_be_shown (ready_pushed c.args.new.connection command c.of-target.result c.self.invariant.ready
    (subst (λ (l : Line K). length l.waiting < l.room) seen c.requires.room)
    (subst (λ (l : Line K). IsWaitable l.longest (units_of l.drives) command) seen c.requires.waitable)
    (subst (λ (l : Line K). list_any (has_name (name_on c.args.new.connection c.args.new.reference)) l.waiting ≡ false)
    seen c.requires.apart)
    (c.of-target.ensures ∙ ap (λ ds. target_of (units_of ds) command) c.as_slice.ensures.value) (λ i. record {
      budget = e.budget i;
      waiting = (e.waiting ∙ ap (λ (r : Record). c.self.inside.backlog.waiting ++ r ∷ []) c.new-record.ensures) i;
      targets = e.targets i;
    })))

-- but for the last they are those of before
pub favor_last-requires-clause-favored : goal.favor_last-requires-clause-favored
favor_last-requires-clause-favored g c = search (arith, length-append, length-map, map-append, take_at)

pub invariant_of-self : goal.invariant_of-self
invariant_of-self g c =
    let K = g.row.K.Denot in
    let seen = sym c.self.view_is in
    let command : Command =
    record { reference = c.args.new.reference; unit = c.args.new.unit; order = c.args.new.order } in
    let e = c.push.ensures in
    record {
      ready = ready_pushed c.args.new.connection command c.of-target.result c.self.invariant.ready
          (subst (λ (l : Line K). length l.waiting < l.room) seen c.requires.room)
          (subst (λ (l : Line K). IsWaitable l.longest (units_of l.drives) command) seen c.requires.waitable)
          (subst (λ (l : Line K). list_any (has_name (name_on c.args.new.connection c.args.new.reference)) l.waiting
          ≡ false)
          seen c.requires.apart)
          (c.of-target.ensures ∙ ap (λ ds. target_of (units_of ds) command) c.as_slice.ensures.value) (λ i. record {
            budget = e.budget i;
            waiting = (e.waiting ∙ ap (λ (r : Record). c.self.inside.backlog.waiting ++ r ∷ []) c.new-record.ensures) i;
            targets = e.targets i;
          });
      favored = subst (λ ds. AreFavored ds (commands c.push.new.self.waiting) c.favor_last.new.favorites)
          c.as_slice-2.ensures.value c.favor_last.ensures;
    }
