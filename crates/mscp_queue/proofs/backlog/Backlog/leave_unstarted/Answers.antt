use Rattle.mscp_queue.proofs.Common.{ap, ◌∙◌, arith, Waiters, Record, is_in_service, left_of}
use Rattle.mscp_queue.proofs.Backlogs.{behind_enough_at, item_at, leave_unstarted_timed, leave_unstarted_told, left_low, place_in, seen_behind, still_there}
use Rattle.mscp_queue.proofs.backlog.Backlog.leave_unstarted.Goals as goal

pub overflow_sub-self : goal.overflow_sub-self
overflow_sub-self c = search (arith, left_low, place_in)

pub item-requires : goal.item-requires
item-requires c = search (arith, place_in)

pub lower_behind-requires : goal.lower_behind-requires
lower_behind-requires c = search (arith, place_in, behind_enough_at, item_at)

pub remove-requires : goal.remove-requires
remove-requires c = still_there c.self.inside.slots _ c.args.place c.from-left.result
    (place_in _ _ c.self.inside.slots (ap (λ (w : Waiters). w.waiting) c.self.view_is) c.requires.place)
    c.lower_behind.ensures

pub invariant_of-self : goal.invariant_of-self
invariant_of-self c =
    let w = ap (λ (w : Waiters). w.waiting) c.self.view_is in
    leave_unstarted_timed c.self.invariant (place_in _ _ c.self.inside.slots w c.requires.place)
    (ap (λ (r : Record). is_in_service r) (item_at c.self.invariant w c.requires.place) ∙ c.requires.unstarted)
    (c.from-left.ensures ∙ c.left.ensures.value ∙ ap (λ (r : Record). left_of r) c.item.ensures) c.lower_behind.ensures
    c.remove.ensures

pub returns-clause-waiting : goal.returns-clause-waiting
returns-clause-waiting c =
    let w = ap (λ (w : Waiters). w.waiting) c.self.view_is in
    leave_unstarted_told c.self.invariant (place_in _ _ c.self.inside.slots w c.requires.place)
    (ap (λ (r : Record). is_in_service r) (item_at c.self.invariant w c.requires.place) ∙ c.requires.unstarted)
    (c.from-left.ensures ∙ c.left.ensures.value ∙ ap (λ (r : Record). left_of r) c.item.ensures) w
    c.lower_behind.ensures c.remove.ensures

pub returns-clause-targets : goal.returns-clause-targets
returns-clause-targets c = seen_behind c.self.inside.slots _ _ c.args.place c.from-left.result _
    (place_in _ _ c.self.inside.slots (ap (λ (w : Waiters). w.waiting) c.self.view_is) c.requires.place)
    (ap (λ (w : Waiters). w.targets) c.self.view_is) c.lower_behind.ensures c.remove.ensures
