-- What is wanted for a block in hand, and what follows once that was done.
use Rattle.std.specs.Prelude.{◌≡◌, ◌<◌, ◌⊎◌, ℕ, ◌==◌, true, false, if◌then◌else◌, List, MatchOption, option_map, Result, Option, None, Some, Ok, Err}
use Rattle.mscp_drive.specs.Shape.{Shape}
use Rattle.mscp_packet.specs.StatusCodes as codes
use Rattle.mscp_packet.specs.Statuses as statuses
use Rattle.mscp_packet.specs.declared.command.MoveKind.{MoveKind}
use Rattle.mscp_packet.specs.declared.end.End.{End}
use Rattle.mscp_queue.specs.declared.report.Report.{Report}
use Rattle.mscp_queue.specs.declared.report.Report.TheVariants as reports
use Rattle.mscp_drive.specs.declared.connection.Connection.{Connection}
use Rattle.mscp_queue.specs.declared.view.Choice.{Choice}
use Rattle.mscp_queue.specs.Names.{name_on}
use Rattle.mscp_queue.specs.Serving.{has_block}
use Rattle.mscp_queue.specs.declared.upcoming.Upcoming.{Upcoming}
use Rattle.mscp_drive.specs.declared.connection.Connection.TheVariants.{First}
use Rattle.mscp_controller.specs.Holdings.{Finishes, Foretells, Holdings, after_take, begun_step}
use Rattle.mscp_controller.specs.declared.entry.NotBegun.{NotBegun}
use Rattle.mscp_port.specs.declared.action.Action.{Action}
use Rattle.mscp_port.specs.declared.action.Action.TheVariants as actions
use Rattle.mscp_port.specs.declared.action.Outcome.{Outcome}
use Rattle.mscp_port.specs.declared.buffers.Buffer.{Buffer}
use Rattle.mscp_port.specs.declared.decided.Decided.{Decided}
use Rattle.mscp_port.specs.declared.port.Port.{Port}
use Rattle.mscp_port.specs.declared.task.Task.{Task}
use Rattle.mscp_port.specs.declared.task.Task.TheVariants as tasks
use Rattle.mscp_port.specs.declared.verdict.Verdict.{Verdict}
use Rattle.mscp_port.specs.declared.verdict.Verdict.TheVariants as verdicts
use Rattle.mscp_port.specs.declared.volumes.Volume.{Volume}
use Rattle.mscp_port.specs.Blocks.{block_of, block_told, faulted, kept_of, move_of, part_with, task_of}
use Rattle.mscp_port.specs.Buffers.{without}
use Rattle.mscp_port.specs.Decided.{decided_step}
use Rattle.mscp_port.specs.Formalities.{code_told}
use Rattle.mscp_port.specs.Volumes.{MayMove, place_in, volume_at, volume_found, volumes_heeded}

-- ---- which step is taken

-- it ends with Drive Error where its unit or its buffer isn't known
abbrev pub known_task : Upcoming → Option ℕ → Option Buffer → List Volume → Task
known_task u (Some place) (Some b) volumes = task_of u b (volume_at volumes place)
known_task u place kept volumes = tasks.Step (faulted statuses.drive_error)

-- what is done for the step that the controller has begun, if a command waits
abbrev pub begun_task : List Shape → List Buffer → List Volume → Option Upcoming → Task
begun_task units buffers volumes None = tasks.Free
begun_task units buffers volumes (Some u) =
    known_task u (place_in units u.command.unit) (kept_of u.connection u.command.reference buffers) volumes

-- the controller has begun a step, by this picker's word, and that is taken in hand and begun still; before it an end
-- may have been taken
pub record BeginsBlock {K : Type 0} (picks : List Choice → ℕ → Type 0) (task : Task) (old new : Port K) : Type 0 where
  pub begun : (held : Holdings K) × (upcoming : Option Upcoming)
      × ((held ≡ old.controller) ⊎ (held ≡ after_take First old.controller))
      × Foretells picks held upcoming new.controller
      × (task ≡ begun_task new.controller.settings.units new.buffers.items new.volumes upcoming)
      × (begun_step new.controller ≡ upcoming)

-- ---- whether a step may go on

-- how the step that is begun moves a block, and which: none where none is begun
abbrev pub moved_step : Option Upcoming → Option (Upcoming × MoveKind × ℕ)
moved_step None = None
moved_step (Some u) = option_map (λ move. (u, move.0, move.1)) (move_of u)

-- the block in hand is that of the step that the controller has begun
abbrev pub block_begun : {K : Type 0} → Port K → Option (Upcoming × MoveKind × ℕ)
block_begun p = moved_step (begun_step p.controller)

-- it may not where its unit or its buffer isn't known (Drive Error)
abbrev pub part_at : Option ℕ → Option Buffer → MoveKind → ℕ → ℕ → List Volume → Result (ℕ × ℕ) Verdict
part_at (Some place) (Some b) kind block done volumes = part_with kind block done b (volume_at volumes place)
part_at place kept kind block done volumes = Err (faulted statuses.drive_error)

-- the part of its command's buffer that a step is about which moves this block so, or how it goes that may not go on:
-- its volume may have changed since it was begun
abbrev pub part_now : {K : Type 0} → Port K → Upcoming → MoveKind → ℕ → Result (ℕ × ℕ) Verdict
part_now p u kind block =
    part_at (place_in p.controller.settings.units u.command.unit)
    (kept_of u.connection u.command.reference p.buffers.items) kind block u.done p.volumes

-- this block may be moved so on the volume that is in the unit
abbrev pub MayMoveUnit : {K : Type 0} → MoveKind → ℕ → ℕ → Port K → Type 0
MayMoveUnit kind unit block p = (place : ℕ) × (place_in p.controller.settings.units unit ≡ Some place) × (place < 16)
    × MayMove kind block (volume_at p.volumes place)

-- this block of this unit may be moved so: there is such a block, also on the volume that is in the unit
abbrev pub MayMoveOn : {K : Type 0} → MoveKind → ℕ → ℕ → Port K → Type 0
MayMoveOn kind unit block p = (place : ℕ) × (place_in p.controller.settings.units unit ≡ Some place) × (place < 16)
    × MayMove kind block (volume_at p.volumes place) × (has_block p.controller.settings.units unit block ≡ true)

-- ---- what is wanted

-- the block is moved to this part or from it. Nothing of a step that may not go on
abbrev pub part_wanted : Upcoming → MoveKind → ℕ → Result (ℕ × ℕ) Verdict → Action
part_wanted u kind block (Ok part) = actions.Transfer kind u.command.unit block part.0 part.1
part_wanted u kind block (Err verdict) = actions.Pause

-- of the block that the step moves which is begun. Only restored bytes say a block in hand where that moves none
abbrev pub move_wanted : {K : Type 0} → Port K → Option (Upcoming × MoveKind × ℕ) → Action
move_wanted p None = actions.Pause
move_wanted p (Some m) = part_wanted m.0 m.1 m.2 (part_now p m.0 m.1 m.2)

-- ---- what follows

-- how a step went whose block's action went so: it may have to end all the same
abbrev pub part_served : Outcome → Result (ℕ × ℕ) Verdict → Verdict
part_served outcome (Ok part) = verdicts.Served (block_of outcome)
part_served outcome (Err verdict) = verdict

-- of the block that the step moves which is begun
abbrev pub block_served : {K : Type 0} → Port K → Outcome → Option (Upcoming × MoveKind × ℕ) → Verdict
block_served p outcome None = faulted statuses.drive_error
block_served p outcome (Some m) = part_served outcome (part_now p m.0 m.1 m.2)

-- the end that a step brought, if it brought one
abbrev pub end_brought : Result Report NotBegun → Option End
end_brought (Ok (reports.Served via reference unit lbn started seek ended)) = ended
end_brought result = None

-- what is kept of the commands that wait, once a step of one of a connection brought this end
abbrev pub kept_after : Connection → Option End → List Buffer → List Buffer
kept_after via None buffers = buffers
kept_after via (Some e) buffers = without via e.reference buffers

-- only Success is heeded
abbrev pub place_heeded : List Shape → End → Option ℕ
place_heeded units e = if statuses.code_of e.status == codes.success then place_in units e.unit else None

-- and the volumes
abbrev pub volumes_after : List Shape → List Buffer → Connection → Option End → List Volume → List Volume
volumes_after units buffers via None volumes = volumes
volumes_after units buffers via (Some e) volumes =
    volumes_heeded e.code (kept_of via e.reference buffers) (place_heeded units e) volumes

-- and what ends say that wait, where the port is this then
abbrev pub decided_ended : {K : Type 0} → Connection → Verdict → Option End → Port K → Port K → List Decided
decided_ended via verdict None old new = old.decided.items
decided_ended via verdict (Some e) old new =
    decided_step via verdict (volume_found old.controller.settings.units old.volumes e.unit)
    (code_told (kept_of via e.reference old.buffers.items) e.code) e old.decided.items new

-- the controller has taken a step of a command of a connection that went so, which brought this end, if it brought one:
-- nothing is in hand, a poll may be heard again, and the end is heeded, and what it says is decided
pub record HeedsStep {K : Type 0} (via : Connection) (verdict : Verdict) (ended : Option End) (old new : Port K)
    : Type 0 where
  pub frame : new ≡ record old {
    controller = new.controller;
    task = tasks.Free;
    owes_block = false;
    buffers = new.buffers;
    decided = new.decided;
    volumes = volumes_after old.controller.settings.units old.buffers.items via ended old.volumes;
  }
  pub buffers : new.buffers.items ≡ kept_after via ended old.buffers.items
  pub decided : new.decided.items ≡ decided_ended via verdict ended old new

-- the controller is told of a step that went so, and nothing is in hand
pub record TakesBlock {K : Type 0} (picks : List Choice → ℕ → Type 0) (via : Connection) (reference : ℕ)
    (verdict : Verdict) (old new : Port K) : Type 0 where
  pub finished : (result : Result Report NotBegun)
      × Finishes picks (name_on via reference) (block_told verdict) old.controller result new.controller
      × HeedsStep via verdict (end_brought result) old new

-- the controller is told of the step that it has begun, which went so. Where none is begun, which only restored bytes
-- say, nothing is in hand any more
abbrev pub TakesBegun : {K : Type 0} → (List Choice → ℕ → Type 0) → Verdict → Port K → Port K → Type 0
TakesBegun picks verdict old new = MatchOption old.controller.begun
    (new ≡ record old { task = tasks.Free })
    (λ name. TakesBlock picks name.connection name.reference verdict old new)

-- what follows for a step in hand, with a block or without one
pub record Moves {K : Type 0} (picks : List Choice → ℕ → Type 0) (outcome : Outcome) (old new : Port K) : Type 0 where
  pub step : (verdict : Verdict) → old.task ≡ tasks.Step verdict → TakesBegun picks verdict old new
  pub transfer : old.task ≡ tasks.Transfer
      → TakesBegun picks (block_served old outcome (block_begun old)) old new

-- a block, or a step without one, is in hand
abbrev pub IsStepping : Task → Type 0
IsStepping (tasks.Step verdict) = Unit {0}
IsStepping tasks.Transfer = Unit {0}
IsStepping task = ⊥

-- the controller has taken the step, or there was none
abbrev pub GoesOnWithBlock : {K : Type 0} → (List Choice → ℕ → Type 0) → Port K → Port K → Type 0
GoesOnWithBlock picks old new = (verdict : Verdict) × TakesBegun picks verdict old new
