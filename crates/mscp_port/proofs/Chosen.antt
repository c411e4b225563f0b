-- What is done for a step that moves a block goes by its part alone.
use Rattle.mscp_port.proofs.Common.{Bool, Buffer, Err, List, MoveKind, None, Ok, Option, Order, Port, Result, Some, Task, Upcoming, Verdict, Volume, ap, arith, begun_task, changed_verdict, false, good_step, has_changed, if◌then◌else◌, is_available, kept_of, known_task, move_of, move_task, move_wanted, moved_by, part_at, part_now, part_of, part_task, part_wanted, part_with, place_in, refl, refusal_of, sym, takes_any_volume, task_of, true, unless_fault, volume_at, ℕ, ◌∙◌, ◌≡◌}
use Rattle.std.specs.Prelude.{◌&&◌}
use Rattle.mscp_port.specs.declared.action.Action.TheVariants as actions
use Rattle.mscp_port.specs.declared.task.Task.TheVariants as tasks

-- only a transfer moves a block
moves_alone : (o : Order) (l : Option ℕ) (move : MoveKind × ℕ) → moved_by o l ≡ Some move
    → (is_available o ≡ false) × (takes_any_volume o ≡ false)
moves_alone o l move e = grind arith

-- where a volume has changed that is told by the part, too
changed_part : (changed : Bool) (verdict : Verdict) (r : Option Verdict) (p : Option (ℕ × ℕ))
    → (if changed then tasks.Step verdict else part_task (unless_fault (if changed then Some verdict else r) p))
    ≡ part_task (unless_fault (if changed then Some verdict else r) p)
changed_part true verdict r p = refl
changed_part false verdict r p = refl

-- what is done neither for AVAILABLE nor for a command that is about any volume
skip : (available any changed there : Bool) (good none moved : Task) → available ≡ false → any ≡ false
    → (if available then good else if there && any then good else if changed then none else moved)
    ≡ (if changed then none else moved)
skip available any changed there good none moved e1 e2 = grind arith

in_place : (u : Upcoming) (move : MoveKind × ℕ) (b : Buffer) (v : Volume) → move_of u ≡ Some move
    → task_of u b v ≡ part_task (part_with move.0 move.1 u.done b v)
in_place u move b v e =
    let alone = moves_alone u.command.order u.lbn move e in
    skip (is_available u.command.order) (takes_any_volume u.command.order) (has_changed b v) v.is_there good_step
    (tasks.Step (changed_verdict v)) (move_task u (move_of u) b v) alone.0 alone.1
    ∙ ap (λ (m : Option (MoveKind × ℕ)). if has_changed b v then tasks.Step (changed_verdict v) else move_task u m b v)
    e
    ∙ changed_part (has_changed b v) (changed_verdict v) (refusal_of move.0 move.1 b v) (part_of b u.done)

known : (u : Upcoming) (move : MoveKind × ℕ) (place : Option ℕ) (kept : Option Buffer) (volumes : List Volume)
    → move_of u ≡ Some move
    → known_task u place kept volumes ≡ part_task (part_at place kept move.0 move.1 u.done volumes)
known u move None None volumes e = refl
known u move None (Some b) volumes e = refl
known u move (Some place) None volumes e = refl
known u move (Some place) (Some b) volumes e = in_place u move b (volume_at volumes place) e

-- a step that moves this block so
pub chosen : {K : Type 0} (p : Port K) (u : Upcoming) (kind : MoveKind) (block : ℕ) (part : Result (ℕ × ℕ) Verdict)
    → move_of u ≡ Some (kind, block) → part ≡ part_now p u kind block
    → part_task part ≡ begun_task p.controller.settings.units p.buffers.items p.volumes (Some u)
chosen p u kind block part moves now =
    ap part_task now
    ∙ sym (known u (kind, block) (place_in p.controller.settings.units u.command.unit)
    (kept_of u.connection u.command.reference p.buffers.items) p.volumes moves)

-- what is wanted for a block isn't nothing
pub no_rest : {K : Type 0} (p : Port K) (o : Option (Upcoming × MoveKind × ℕ)) → move_wanted p o ≡ actions.Rest → ⊥
no_rest p None e = search (arith, e)
no_rest p (Some m) e = by (part_now p m.0 m.1 m.2) e
  where
    by : (r : Result (ℕ × ℕ) Verdict) → part_wanted m.0 m.1 m.2 r ≡ actions.Rest → ⊥
    by (Ok part) h = search (arith, h)
    by (Err verdict) h = search (arith, h)
