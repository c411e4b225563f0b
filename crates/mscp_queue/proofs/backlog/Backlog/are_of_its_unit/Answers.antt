use Rattle.mscp_queue.proofs.Common.{◌≡◌, ◌<◌, ◌+◌, drop, length, ap, sym, subst, ◌∙◌, arith, All, slice_index_or, drop-map, All-from_recursion, recursion_from_All, Target, Slot, Waiters, no_target, slot_at}
use Rattle.mscp_queue.proofs.Backlogs.{long_is, of_targets, own_there}
use Rattle.mscp_queue.proofs.backlog.Backlog.are_of_its_unit.Goals as goal

pub are_of_its_unit-requires : goal.are_of_its_unit-requires
are_of_its_unit-requires c = omega (arith, c.requires, long_is _ _ _ c.self.view_is)

pub returns : goal.returns
returns c = λ e.
    let ss = c.self.inside.slots in
    let place = c.args.place in
    let view = ap (λ (w : Waiters). w.targets) c.self.view_is in
    let l : place < length ss = omega (arith, c.requires, long_is _ _ _ c.self.view_is) in
    let d = (slot_at ss place).target.drive in
    let own = ap (λ (a : Target). a.drive) (own_there ss place l ∙ ap
    (λ own. slice_index_or own place no_target) view) in
    subst (λ n. All (λ (a : Target). a.drive ≡ n) (drop (place + 1) c.args.self.now.targets)) own
    (subst (All (λ (a : Target). a.drive ≡ d)) (sym (drop-map (λ (s : Slot). s.target) (place + 1) ss)
    ∙ ap (drop (place + 1)) view)
    (All-from_recursion (λ (a : Target). a.drive ≡ d) _
    (of_targets (λ (a : Target). a.drive ≡ d) (drop (place + 1) ss)
    (recursion_from_All (λ (s : Slot). s.target.drive ≡ d) (drop (place + 1) ss) (c.are_of_its_unit.ensures e)))))
