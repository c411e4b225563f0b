use Rattle.mscp_queue.proofs.Common.{ap, ◌∙◌, arith, Waiters, Record, left_of, step_charge}
use Rattle.mscp_queue.proofs.BacklogSteps.{affordable, seen_own, seen_step, step_at, step_late, step_timed}
use Rattle.mscp_queue.proofs.Backlogs.{item_at, left_low, place_in}
use Rattle.mscp_queue.proofs.backlog.Backlog.advance.Goals as goal

pub overflow_sub-self : goal.overflow_sub-self
overflow_sub-self c =
    let w = ap (λ (w : Waiters). w.waiting) c.self.view_is in
    let low = left_low c.self.invariant (place_in _ _ c.self.inside.slots w c.requires.place) in
    let item = item_at c.self.invariant w c.requires.place in
    omega (arith, low, ap (λ (r : Record). left_of r) item, c.requires.unfinished)

pub advance-requires : goal.advance-requires
advance-requires c = search (arith, place_in, item_at)

pub set_back-self-inside-requires-clause-due : goal.set_back-self-inside-requires-clause-due
set_back-self-inside-requires-clause-due c =
    let w = ap (λ (w : Waiters). w.waiting) c.self.view_is in
    step_late (step_at c.self.invariant w (place_in _ _ c.self.inside.slots w c.requires.place)
    c.requires.unfinished c.requires.front c.requires.back
    (affordable _ _ c.args.place c.self.view_is c.requires.affordable)
    c.advance.ensures)

pub invariant_of-self : goal.invariant_of-self
invariant_of-self c =
    let w = ap (λ (w : Waiters). w.waiting) c.self.view_is in
    step_timed c.self.invariant (step_at c.self.invariant w (place_in _ _ c.self.inside.slots w c.requires.place)
    c.requires.unfinished c.requires.front c.requires.back
    (affordable _ _ c.args.place c.self.view_is c.requires.affordable)
    c.advance.ensures)
    c.set_back-self-inside.ensures.early c.set_back-self-inside.ensures.below c.set_back-self-inside.ensures.dues

pub returns-clause-waiting : goal.returns-clause-waiting
returns-clause-waiting c =
    let w = ap (λ (w : Waiters). w.waiting) c.self.view_is in
    seen_step (step_at c.self.invariant w (place_in _ _ c.self.inside.slots w c.requires.place)
    c.requires.unfinished c.requires.front c.requires.back
    (affordable _ _ c.args.place c.self.view_is c.requires.affordable)
    c.advance.ensures)
    c.set_back-self-inside.ensures.below w
    (ap (λ (r : Record). step_charge r) (item_at c.self.invariant w c.requires.place))
    c.set_back-self-inside.ensures.dues

pub returns-clause-targets : goal.returns-clause-targets
returns-clause-targets c =
    let w = ap (λ (w : Waiters). w.waiting) c.self.view_is in
    seen_own _ (step_at c.self.invariant w (place_in _ _ c.self.inside.slots w c.requires.place)
    c.requires.unfinished c.requires.front c.requires.back
    (affordable _ _ c.args.place c.self.view_is c.requires.affordable)
    c.advance.ensures)
    c.set_back-self-inside.ensures.dues ∙ ap (λ (w : Waiters). w.targets) c.self.view_is
