-- What a controller is told of a step is what a drive may tell, and a unit that isn't online ends no other command
-- than a transfer.
use Rattle.mscp_logged.proofs.Common.{Buffer, Err, IsBegunStep, IsFault, IsFaultTold, IsHow, List, MoveKind, Name, None, Ok, Option, Order, Outcome, Port, Record, Result, Some, Task, Upcoming, Verdict, Volume, arith, begun_step, block_begun, block_served, block_told, drive_of, faulted, find, has_name, inl, inr, is_move, known_task, move_of, move_task, moved_by, option_map, part_at, part_served, part_task, part_with, place_in, refl, subst, sym, true, upcoming_of, ℕ, ◌%◌, ◌<◌, ◌^◌, ◌≡◌, ◌≤◌}
use Rattle.mscp_drive.specs.declared.block.Block.TheVariants as blocks
use Rattle.mscp_port.specs.declared.task.Task.TheVariants as tasks
use Rattle.mscp_port.specs.declared.verdict.Verdict.TheVariants as verdicts

-- ---- a verdict

abbrev pub IsFine : Order → Verdict → Type 0
IsFine order verdict =
    IsFault (block_told verdict) × (verdict ≡ verdicts.NotOnline → is_move order ≡ true)

-- the same of a command's record
abbrev pub IsToldOf : Verdict → Record → Type 0
IsToldOf verdict r = IsFine r.command.order verdict

abbrev IsFineOr : Order → Result (ℕ × ℕ) Verdict → Type 0
IsFineOr order (Ok part) = Unit {0}
IsFineOr order (Err verdict) = IsFine order verdict

abbrev IsFineTask : Order → Task → Type 0
IsFineTask order (tasks.Step verdict) = IsFine order verdict
IsFineTask order task = Unit {0}

module _ (order : Order) where
  fault : (n : ℕ) → (n < 2 ^ 16) × (5 ≤ n % 32) × (n % 32 ≤ 11) → IsFine order (faulted n)
  fault n h = (h, λ e. absurd (search (arith, e)))

  good : IsFine order (verdicts.Served blocks.Good)
  good = (tt, λ e. absurd (search (arith, e)))

  drive_error : IsFine order (faulted 0x000B)
  drive_error = fault 0x000B (omega arith, omega arith, omega arith)

  part_fine : is_move order ≡ true → (kind : MoveKind) (block done : ℕ) (b : Buffer) (v : Volume)
      → IsFineOr order (part_with kind block done b v)
  part_fine move kind block done b v = grind arith

  at_fine : is_move order ≡ true → (place : Option ℕ) (kept : Option Buffer) (kind : MoveKind) (block done : ℕ)
      (volumes : List Volume) → IsFineOr order (part_at place kept kind block done volumes)
  at_fine move place kept kind block done volumes = grind (arith, part_fine, drive_error)

-- ---- a step

moved_is : (order : Order) (lbn : Option ℕ) (move : MoveKind × ℕ) → moved_by order lbn ≡ Some move
    → is_move order ≡ true
moved_is order lbn move e = grind arith

part_task_fine : (order : Order) (part : Result (ℕ × ℕ) Verdict) → IsFineOr order part
    → IsFineTask order (part_task part)
part_task_fine order part fine = grind arith

module _ (u : Upcoming) where
  abbrev order : Order
  order = u.command.order

  move_task_fine : (b : Buffer) (v : Volume) (move : Option (MoveKind × ℕ)) → move_of u ≡ move
      → IsFineTask order (move_task u move b v)
  move_task_fine b v None e = good order
  move_task_fine b v (Some move) e = part_task_fine order (part_with move.0 move.1 u.done b v)
      (part_fine order (moved_is order u.lbn move e) move.0 move.1 u.done b v)

  known_fine : (place : Option ℕ) (kept : Option Buffer) (volumes : List Volume)
      → IsFineTask order (known_task u place kept volumes)
  known_fine place kept volumes = grind (arith, good, move_task_fine, drive_error)

-- ---- what is told

module _ {K : Type 0} (old : Port K) (outcome : Outcome) (told : IsFaultTold outcome) (step : IsBegunStep old)
    (name : Name) (was : old.controller.begun ≡ Some name) (r : Record)
    (found : find (has_name name) old.controller.waiting ≡ Some r) where
  abbrev u : Upcoming
  u = upcoming_of (drive_of old.controller.drives r.command.unit) r

  begun_is : begun_step old.controller ≡ Some u
  begun_is = grind arith

  step_is_fine : (verdict : Verdict) → old.task ≡ tasks.Step verdict → IsToldOf verdict r
  step_is_fine verdict at = grind (arith, begun_is, known_fine)

  moved_is_fine : IsToldOf (block_served old outcome (block_begun old)) r
  moved_is_fine = rw begun_is (by (move_of u) refl)
    where
      served : (part : Result (ℕ × ℕ) Verdict) → IsFineOr r.command.order part → IsToldOf (part_served outcome part) r
      served part fine = grind arith

      by : (move : Option (MoveKind × ℕ)) → move_of u ≡ move
          → IsToldOf (block_served old outcome (option_map (λ move. (u, move.0, move.1)) move)) r
      by None e = drive_error r.command.order
      by (Some move) e = served _ (at_fine r.command.order (moved_is u.command.order u.lbn move e)
          (place_in old.controller.settings.units u.command.unit) _ move.0 move.1 u.done old.volumes)

  pub told_fine : (verdict : Verdict) → IsHow old outcome verdict → IsToldOf verdict r
  told_fine verdict (inl at) = step_is_fine verdict at
  told_fine verdict (inr h) = subst (λ v. IsToldOf v r) (sym h.1) moved_is_fine
