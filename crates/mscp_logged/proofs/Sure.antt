-- How a step went that ended otherwise than its drive told: its unit isn't online with its volume. And a transfer goes
-- well only while it is.
use Rattle.mscp_logged.proofs.Common.{Block, Bool, Buffer, Err, IsBegunStep, IsHow, List, MoveKind, Name, None, Ok, Option, Outcome, Port, Record, Result, Some, Task, Upcoming, Verdict, Volume, arith, begun_record, begun_step, block_begun, block_served, drive_of, false, false≢true, faulted, find, has_name, inl, is_some, known_task, move_of, move_task, option_map, part_served, true, upcoming_of, volume_found, volume_in_place, ℕ, ◌%◌, ◌≡◌, ◌≤◌, ◌⊎◌}
use Rattle.mscp_drive.specs.declared.block.Block.TheVariants as blocks
use Rattle.mscp_port.specs.declared.task.Task.TheVariants as tasks
use Rattle.mscp_port.specs.declared.verdict.Verdict.TheVariants as verdicts

-- ---- a verdict

-- a block that moves one goes well only on a unit that is online, and so it fails, or by a fault of its medium, drive
-- or buffer
abbrev IsSureBlock : Bool → Volume → Block → Type 0
IsSureBlock moves v blocks.Good = moves ≡ true → v.is_mounted ≡ true
IsSureBlock moves v (blocks.Bad status) =
    ((5 ≤ status % 32) × (status % 32 ≤ 11)) ⊎ ((moves ≡ true) × (v.is_mounted ≡ true))

abbrev pub IsSure : Bool → Volume → Verdict → Type 0
IsSure moves v (verdicts.Served block) = IsSureBlock moves v block
IsSure moves v verdicts.NoVolume = v.is_mounted ≡ false
IsSure moves v verdicts.NotOnline = v.is_mounted ≡ false

abbrev IsSureOr : Volume → Result (ℕ × ℕ) Verdict → Type 0
IsSureOr v (Ok part) = v.is_mounted ≡ true
IsSureOr v (Err verdict) = IsSure true v verdict

abbrev IsSureTask : Bool → Volume → Task → Type 0
IsSureTask moves v (tasks.Step verdict) = IsSure moves v verdict
IsSureTask moves v task = Unit {0}

drive_error : (moves : Bool) (v : Volume) → IsSure moves v (faulted 0x000B)
drive_error moves v = inl (omega arith, omega arith)

-- ---- a step

-- it moves a block
abbrev pub moves_block : Upcoming → Bool
moves_block u = is_some (move_of u)

module _ (u : Upcoming) where
  move_sure : (b : Buffer) (v : Volume) (move : Option (MoveKind × ℕ))
      → IsSureTask (is_some move) v (move_task u move b v)
  move_sure b v None = λ moves. absurd (false≢true moves)
  move_sure b v (Some move) = grind arith

  known_sure : (place : Option ℕ) (kept : Option Buffer) (volumes : List Volume)
      → IsSureTask (moves_block u) (volume_in_place volumes place) (known_task u place kept volumes)
  known_sure place kept volumes = grind (arith, move_sure, drive_error)

-- ---- what is told

module _ {K : Type 0} (old : Port K) (outcome : Outcome) (step : IsBegunStep old) (name : Name)
    (was : old.controller.begun ≡ Some name) (r : Record)
    (found : find (has_name name) old.controller.waiting ≡ Some r) where
  abbrev u : Upcoming
  u = upcoming_of (drive_of old.controller.drives r.command.unit) r

  abbrev v : Volume
  v = volume_found old.controller.settings.units old.volumes r.command.unit

  begun_is : begun_step old.controller ≡ Some u
  begun_is = begun_record old.controller name r was found

  moved_sure : IsSure (moves_block u) v (block_served old outcome (block_begun old))
  moved_sure = rw begun_is (by (move_of u))
    where
      served : (part : Result (ℕ × ℕ) Verdict) → IsSureOr v part → IsSure true v (part_served outcome part)
      served part s = grind arith

      by : (move : Option (MoveKind × ℕ))
          → IsSure (is_some move) v (block_served old outcome (option_map (λ move. (u, move.0, move.1)) move))
      by move = grind (arith, drive_error, served)

  pub told_sure : (verdict : Verdict) → IsHow old outcome verdict → IsSure (moves_block u) v verdict
  told_sure verdict x = grind (arith, begun_is, known_sure, moved_sure)
