use Rattle.mscp_queue.proofs.Common.{◌+◌, ap, ◌∙◌, arith, Waiters, Record, is_in_service, left_of}
use Rattle.mscp_queue.proofs.Backlogs.{back_of, front_of, item_at, leave_enough, leave_timed, leave_told, left_low, place_in, seen_left}
use Rattle.mscp_queue.proofs.backlog.Backlog.leave.Goals as goal

pub overflow_sub-self : goal.overflow_sub-self
overflow_sub-self c = search (arith, left_low, place_in)

pub item-requires : goal.item-requires
item-requires c = search (arith, place_in)

pub remove-requires : goal.remove-requires
remove-requires c = search (arith, place_in)

pub lower_all-requires : goal.lower_all-requires
lower_all-requires c =
    let b = c.self.inside in
    let w = ap (λ (w : Waiters). w.waiting) c.self.view_is in
    leave_enough c.self.invariant (place_in _ _ b.slots w c.requires.place)
    (ap (λ (r : Record). is_in_service r) (item_at c.self.invariant w c.requires.place) ∙ c.requires.serving)
    (front_of b.budget b.clock b.slots _ c.args.place w c.requires.front)
    (back_of b.budget b.clock b.slots _ (c.args.place + 1) w c.requires.back)
    (c.from-left.ensures ∙ c.left.ensures.value ∙ ap (λ (r : Record). left_of r) c.item.ensures) c.remove.ensures

pub invariant_of-self : goal.invariant_of-self
invariant_of-self c =
    let b = c.self.inside in
    let w = ap (λ (w : Waiters). w.waiting) c.self.view_is in
    leave_timed c.self.invariant (place_in _ _ b.slots w c.requires.place)
    (ap (λ (r : Record). is_in_service r) (item_at c.self.invariant w c.requires.place) ∙ c.requires.serving)
    (front_of b.budget b.clock b.slots _ c.args.place w c.requires.front)
    (back_of b.budget b.clock b.slots _ (c.args.place + 1) w c.requires.back)
    (c.from-left.ensures ∙ c.left.ensures.value ∙ ap (λ (r : Record). left_of r) c.item.ensures) c.remove.ensures
    c.lower_all.ensures

pub returns-clause-waiting : goal.returns-clause-waiting
returns-clause-waiting c =
    let b = c.self.inside in
    let w = ap (λ (w : Waiters). w.waiting) c.self.view_is in
    leave_told c.self.invariant (place_in _ _ b.slots w c.requires.place)
    (ap (λ (r : Record). is_in_service r) (item_at c.self.invariant w c.requires.place) ∙ c.requires.serving)
    (front_of b.budget b.clock b.slots _ c.args.place w c.requires.front)
    (back_of b.budget b.clock b.slots _ (c.args.place + 1) w c.requires.back)
    (c.from-left.ensures ∙ c.left.ensures.value ∙ ap (λ (r : Record). left_of r) c.item.ensures) w c.remove.ensures
    c.lower_all.ensures

pub returns-clause-targets : goal.returns-clause-targets
returns-clause-targets c = search (arith, seen_left)
