-- A block of which the controller is told that it went well was moved at its place.
use Rattle.mscp_ported.proofs.Common.{All, Answered, AsksAlways, Block, Bool, Buffer, Call, Connection, Err, Finish, First, Hardware, Holdings, IfSome, IsEmpty, IsFinish, IsMadeOf, IsOfBlock, List, Makes, MoveKind, Name, None, NotBegun, Ok, Option, Order, Outcome, Picking, Port, Record, Report, Result, Some, Task, Upcoming, Verdict, Volume, WasMoved, WasSaid, Went, Wish, [], ap, arith, asks_nothing, begun_step, begun_task, block_begun, block_moved, changed_verdict, cond, drive_of, eqb-true, false, find, has_changed, has_name, inl, inr, is_available, is_moving, is_of, is_same, kept_of, known_task, move_of, move_task, move_wanted, moved_by, moved_step, name_of, name_on, nat_eq, none-some, option_map, part_at, part_now, part_of, part_task, part_wanted, part_with, place_in, position, refl, same_Some, step_told, subst, sym, takes_any_volume, task_of, told_as, told_of, told_unless, transfer_told, true, upcoming_begun, upcoming_of, volume_at, wish, ℕ, ◌&&◌, ◌*◌, ◌+◌, ◌<◌, ◌∙◌, ◌∷◌, ◌≡◌, ◌≢◌, ◌≤◌, ◌⊎◌}
use Rattle.mscp_ported.proofs.Heeded.{kept_was_said}
use Rattle.mscp_ported.proofs.Kept.{IsTo}
use Rattle.mscp_ported.proofs.Said.{Keeps, kept_found, of_first}
use Rattle.mscp_drive.specs.declared.block.Block.TheVariants as blocks
use Rattle.mscp_port.specs.declared.action.Action.TheVariants as actions
use Rattle.mscp_port.specs.declared.action.Outcome.TheVariants as outcomes
use Rattle.mscp_port.specs.declared.task.Task.TheVariants as tasks
use Rattle.mscp_port.specs.declared.verdict.Verdict.TheVariants as verdicts
use Rattle.mscp_ported.proofs.Moving.{Steps, steps}
use Rattle.mscp_ported.proofs.Parts.{changed_bad, has_data, no_good_part, none_left, part_is, part_left, some_left}
use Rattle.mscp_ported.proofs.Sole.{found_all}

-- ---- what the controller is told

pub good_told : (o : Option Block) (n : Option Name) (via : Connection) (reference : ℕ)
    (result : Result Report NotBegun) → IsFinish o n (Finish via reference blocks.Good result ∷ [])
    → o ≡ Some blocks.Good
good_told o n via reference result h = grind arith

good_verdict : (verdict : Verdict) → told_of verdict ≡ blocks.Good → verdict ≡ verdicts.Served blocks.Good
good_verdict verdict e = grind arith

good_outcome : (outcome : Outcome) → told_as outcome ≡ blocks.Good → outcome ≡ outcomes.Done
good_outcome outcomes.Done e = refl
good_outcome outcome e = search (arith, e)

-- ---- the step that is begun

pub moved_so : (order : Order) (lbn : Option ℕ) → moved_by order lbn ≡ block_moved order lbn
moved_so order lbn = grind arith

is_move : (order : Order) (lbn : Option ℕ) (x : MoveKind × ℕ) → block_moved order lbn ≡ Some x
    → (is_available order ≡ false)
    × (takes_any_volume order ≡ false)
is_move order lbn x e = grind (arith, none-some)

module _ (u : Upcoming) (kind : MoveKind) (block : ℕ) (moves : block_moved u.command.order u.lbn ≡ Some (kind, block))
  where
    move_so : move_of u ≡ Some (kind, block)
    move_so = moved_so u.command.order u.lbn ∙ moves

    -- a step without a block goes well only where the buffer has no byte for it
    abbrev Low : Buffer → Type 0
    Low b = (b.count ≤ u.done * 512) × (asks_nothing b.opcode ≡ false)

    good_part : (at : MoveKind × ℕ) (b : Buffer) (v : Volume) (r : Result (ℕ × ℕ) Verdict)
        → part_with at.0 at.1 u.done b v ≡ r → part_task r ≡ tasks.Step (verdicts.Served blocks.Good)
        → Low b
    good_part at b v (Ok part) e h = grind (arith, nat_eq, part_left, none_left, part_is, eqb-true, has_data)
    good_part at b v (Err verdict) e h = grind (arith, no_good_part)

    good_step : (b : Buffer) (v : Volume) → task_of u b v ≡ tasks.Step (verdicts.Served blocks.Good)
        → Low b
    good_step b v e =
        let a = is_move u.command.order u.lbn (kind, block) moves in
        by (is_available u.command.order) (v.is_there && takes_any_volume u.command.order) (has_changed b v) (move_of u)
        a.0 (search (arith, a.1)) move_so e
      where
        good : Task
        good = tasks.Step (verdicts.Served blocks.Good)

        verdict_in : Task → Verdict
        verdict_in (tasks.Step x) = x
        verdict_in task = changed_verdict v

        by : (x y z : Bool) (q : Option (MoveKind × ℕ)) → x ≡ false → y ≡ false → q ≡ Some (kind, block)
            → cond x good (cond y good (cond z (tasks.Step (changed_verdict v)) (move_task u q b v))) ≡ good
            → Low b
        by true y z q f g is h = search (arith, f)
        by false true z q f g is h = search (arith, g)
        by false false true q f g is h = absurd (changed_bad v (ap (λ x. verdict_in x) h))
        by false false false None f g is h = absurd (none-some (kind, block) is)
        by false false false (Some at) f g is h = good_part at b v (part_with at.0 at.1 u.done b v) refl h

    -- of the buffer that is kept
    begun_good : (o : Option ℕ) (k : Option Buffer) (volumes : List Volume)
        → known_task u o k volumes ≡ tasks.Step (verdicts.Served blocks.Good)
        → (b : Buffer) × (k ≡ Some b) × Low b
    begun_good o k volumes e = grind (arith, good_step)

    -- and one with a block only where it has some
    some_part : (at : MoveKind × ℕ) (b : Buffer) (v : Volume) (r : Result (ℕ × ℕ) Verdict)
        → part_with at.0 at.1 u.done b v ≡ r → part_task r ≡ tasks.Transfer → u.done * 512 < b.count
    some_part at b v r e h = grind (arith, nat_eq, some_left, part_is, part_left)

    some_step : (b : Buffer) (v : Volume) → task_of u b v ≡ tasks.Transfer → u.done * 512 < b.count
    some_step b v e = grind (arith, is_move, move_so, none-some, some_part)

    begun_some : (o : Option ℕ) (k : Option Buffer) (volumes : List Volume) → known_task u o k volumes ≡ tasks.Transfer
        → (b : Buffer) → k ≡ Some b → u.done * 512 < b.count
    begun_some o k volumes e b is = grind (arith, same_Some, some_step)

    -- a part is known only of a buffer that is kept
    part_of_kept : (o : Option ℕ) (k : Option Buffer) (volumes : List Volume) (part : ℕ × ℕ)
        → part_at o k kind block u.done volumes ≡ Ok part → (b : Buffer) × (k ≡ Some b) × (part_of b u.done ≡ Some part)
    part_of_kept (Some place) (Some b) volumes part e =
        (b, refl, part_left kind block u.done b (volume_at volumes place) part e)
    part_of_kept None k volumes part e = search (arith, e)
    part_of_kept (Some place) None volumes part e = search (arith, e)

    -- a block that went well was moved
    moved_good : {K : Type 0} (old : Port K) (outcome : Outcome) (w : Option Wish) → begun_step old.controller ≡ Some u
        → transfer_told old outcome (block_begun old) ≡ blocks.Good → w ≢ None
        → IfSome w (λ x. x.action ≡ move_wanted old (block_begun old))
        → ((b : Buffer) → kept_of u.connection u.command.reference old.buffers.items ≡ Some b → u.done * 512 < b.count)
        → (b : Buffer) × (kept_of u.connection u.command.reference old.buffers.items ≡ Some b)
        × (asks_nothing b.opcode ≡ false) × WasMoved b u kind block outcome w
    moved_good {K} old outcome w begun told some wanted long =
        by (part_now old u kind block) refl (told_so) w some (subst (λ o. IfSome w (λ x. x.action
        ≡ move_wanted old o)) at wanted)
      where
        at : block_begun old ≡ Some (u, kind, block)
        at = ap moved_step begun ∙ ap (λ o. option_map (λ move. (u, move.0, move.1)) o) move_so

        told_so : told_unless outcome (part_now old u kind block) ≡ blocks.Good
        told_so = sym (ap (transfer_told old outcome) at) ∙ told

        by : (r : Result (ℕ × ℕ) Verdict) → part_now old u kind block ≡ r
            → told_unless outcome (part_now old u kind block) ≡ blocks.Good → (o : Option Wish) → o ≢ None
            → IfSome o (λ x. x.action ≡ move_wanted old (Some (u, kind, block)))
            → (b : Buffer) × (kept_of u.connection u.command.reference old.buffers.items ≡ Some b)
            × (asks_nothing b.opcode ≡ false) × WasMoved b u kind block outcome o
        by r e told None some wanted = absurd (some refl)
        by (Ok part) e told (Some x) some wanted =
            let kept = part_of_kept (place_in old.controller.settings.units u.command.unit)
            (kept_of u.connection u.command.reference old.buffers.items) old.volumes part e in
            let is = part_is kept.0 u.done part kept.2 in (
              kept.0,
              kept.1,
              has_data kept.0 u.done part kept.2,
              (
                long kept.0 kept.1,
                good_outcome outcome (ap (told_unless outcome) (sym e) ∙ told),
                record {
                  action = wanted ∙ ap (part_wanted u kind block) e
                      ∙ ap (λ n. actions.Transfer kind u.command.unit block n part.1) is.0
                      ∙ ap (actions.Transfer kind u.command.unit block (kept.0.address + u.done * 512)) is.1;
                },
              ),
            )
        by (Err verdict) e told (Some x) some wanted = grind (arith, good_verdict, no_good_part)

-- ---- who said it

-- the step that is begun is of a command that waits
begun_of : {K : Type 0} (P : Record → Type 0) (h : Holdings K) (u : Upcoming) → All P h.waiting
    → begun_step h ≡ Some u
    → (r : Record) × P r × (u.connection ≡ r.connection) × (u.command ≡ r.command)
begun_of {K} P h u all e = by h.begun e
  where
    by : (o : Option Name) → upcoming_begun h.drives h.waiting o ≡ Some u
        → (r : Record) × P r × (u.connection ≡ r.connection) × (u.command ≡ r.command)
    by None e = absurd (none-some u e)
    by (Some name) e = found (find (has_name name) h.waiting) refl e
      where
        found : (o : Option Record) → find (has_name name) h.waiting ≡ o
            → option_map (λ r. upcoming_of (drive_of h.drives r.command.unit) r) o ≡ Some u
            → (r : Record) × P r × (u.connection ≡ r.connection) × (u.command ≡ r.command)
        found None f e = absurd (none-some u e)
        found (Some r) f e =
            let same = same_Some (upcoming_of (drive_of h.drives r.command.unit) r) u e in (
              r,
              (found_all P (has_name name) h.waiting r all f).0,
              sym (ap (λ (x : Upcoming). x.connection) same),
              sym (ap (λ (x : Upcoming). x.command) same),
            )

-- what is kept for the step that is begun was said by a message of its number, to its unit
pub kept_said : {K : Type 0} (said : ℕ → Buffer → Type 0) (p : Port K) (u : Upcoming) (b : Buffer)
    → Keeps said p → begun_step p.controller ≡ Some u
    → kept_of u.connection u.command.reference p.buffers.items ≡ Some b
    → (u.connection ≡ First) × (b.reference ≡ u.command.reference) × said u.command.unit b
kept_said {K} said p u b keeps begun kept =
    let found = kept_found (is_of u.connection u.command.reference) p.buffers.items b
    (position (is_of u.connection u.command.reference) p.buffers.items) refl kept in
    let first = of_first u.connection u.command.reference b found.1 in
    let is = keeps b found.0 in
    let r = begun_of (IsTo (λ unit. said unit b) b.reference) p.controller u is.units begun in
    let name : name_of r.0 ≡ name_on First b.reference =
    ap (λ c. name_on c r.0.command.reference) (sym r.2 ∙ first.0)
    ∙ ap (name_on First) (sym (ap (λ c. c.reference) r.3) ∙ sym first.1) in (
      first.0,
      first.1,
      subst (λ c. said c.unit b) (sym r.3) (r.1 (is_same (name_of r.0) (name_on First b.reference) name)),
    )

-- ---- the step that is told

-- the block was moved, or there was none to move
abbrev pub Either : {K : Type 0} → Buffer → Upcoming → MoveKind → ℕ → Outcome → Port K → Option Wish → Type 0
Either b u kind block outcome old w =
    ((is_moving old.task ≡ false) × IsEmpty b u w) ⊎ ((is_moving old.task ≡ true) × WasMoved b u kind block outcome w)

pub moved_at : {K : Type 0} (old : Port K) (w : Option Wish) (outcome : Outcome) (u : Upcoming) (kind : MoveKind)
    (block : ℕ) → w ≢ None → Steps old w → step_told old outcome old.task ≡ Some blocks.Good
    → begun_step old.controller ≡ Some u → block_moved u.command.order u.lbn ≡ Some (kind, block)
    → (b : Buffer) × (kept_of u.connection u.command.reference old.buffers.items ≡ Some b)
    × (asks_nothing b.opcode ≡ false) × Either b u kind block outcome old w
moved_at {K} old w outcome u kind block some s told begun moves = by old.task refl told
  where
    empty : (b : Buffer) (w : Option Wish) → b.count ≤ u.done * 512 → w ≢ None
        → IfSome w (λ x. x.action ≡ actions.Pause) → IsEmpty b u w
    empty b None low some h = absurd (some refl)
    empty b (Some x) low some h = (low, h)

    by : (task : Task) → old.task ≡ task → step_told old outcome old.task ≡ Some blocks.Good
        → (b : Buffer) × (kept_of u.connection u.command.reference old.buffers.items ≡ Some b)
        × (asks_nothing b.opcode ≡ false) × Either b u kind block outcome old w
    by (tasks.Step verdict) at told =
        let good = good_verdict verdict (same_Some (told_of verdict) blocks.Good
        (sym (ap (step_told old outcome) at) ∙ told)) in
        let is : begun_task old.controller.settings.units old.buffers.items old.volumes (Some u)
        ≡ tasks.Step (verdicts.Served blocks.Good) =
        ap (begun_task old.controller.settings.units old.buffers.items old.volumes) (sym begun)
        ∙ sym (s.begun (subst (λ x. IsOfBlock x) (sym at) tt)) ∙ at ∙ ap tasks.Step good in
        let b = begun_good u kind block moves (place_in old.controller.settings.units u.command.unit)
        (kept_of u.connection u.command.reference old.buffers.items) old.volumes is in
        (b.0, b.1, b.2.1, inl (ap is_moving at, empty b.0 w b.2.0 some (s.paused verdict at)))
    by tasks.Transfer at told =
        let good = same_Some (transfer_told old outcome (block_begun old)) blocks.Good
        (sym (ap (step_told old outcome) at) ∙ told) in
        let b = moved_good u kind block moves old outcome w begun good some (s.wanted at)
        (begun_some u kind block moves (place_in old.controller.settings.units u.command.unit)
        (kept_of u.connection u.command.reference old.buffers.items) old.volumes
        (ap (begun_task old.controller.settings.units old.buffers.items old.volumes) (sym begun)
        ∙ sym (s.begun (subst (λ x. IsOfBlock x) (sym at) tt)) ∙ at)) in
        (b.0, b.1, b.2, inr (ap is_moving at, b.3))
    by task at told = absurd (none-some blocks.Good (sym (ap (step_told old outcome) at) ∙ told))

module _ {K : Type 0} (picks : Picking K) (hardware : Hardware) (credits : ℕ) (controller : Holdings K)
    (start : Port K) (made : IsMadeOf hardware credits controller start) where
  pub moves_what_it_says : (p : Port K) (calls : List Call) (outcome : Outcome) (done : Unit) (via : Connection)
      (reference : ℕ) (result : Result Report NotBegun) (u : Upcoming) (kind : MoveKind) (block : ℕ)
      → AsksAlways (Went outcome (Ok done) ∷ calls) → (a : Answered picks start (Went outcome (Ok done) ∷ calls) p)
      → Makes (Went outcome (Ok done)) a.0 p (Finish via reference blocks.Good result ∷ [])
      → begun_step a.0.controller ≡ Some u → block_moved u.command.order u.lbn ≡ Some (kind, block)
      → (b : Buffer) × (u.connection ≡ First) × WasSaid picks u.command.reference u.command.unit start a.0 calls a.1 b
      × (IsEmpty b u (wish calls) ⊎ WasMoved b u kind block outcome (wish calls))
  moves_what_it_says p calls outcome done via reference result u kind block asks a makes begun moves =
      let told = good_told (step_told a.0 outcome a.0.task) a.0.controller.begun via reference result makes in
      let at = moved_at a.0 (wish calls) outcome u kind block asks.0
      (steps picks hardware credits controller start made a.0 calls asks.1 a.1) told begun moves in
      let is = kept_said (λ unit x. WasSaid picks x.reference unit start a.0 calls a.1 x) a.0 u at.0
      (kept_was_said picks hardware credits controller start a.0 calls made a.1) begun at.1 in (
        at.0,
        is.0,
        subst (λ n. WasSaid picks n u.command.unit start a.0 calls a.1 at.0) is.1 is.2,
        elim at.3 [ inl e ↦ inl e.1 | inr m ↦ inr m.1 ],
      )
