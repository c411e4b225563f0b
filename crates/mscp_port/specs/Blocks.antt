-- How the step of a command is taken, and why it isn't (statuses: manual, "Status and Event Codes").
use Rattle.std.specs.Prelude.{nat_le, ℕ, ◌%◌, ◌==◌, ◌&&◌, ◌||◌, not, Bool, true, false, if◌then◌else◌, slice_get, List, Option, None, Some, Result, Ok, Err}
use Rattle.std.specs.List.{position}
use Rattle.mscp_packet.specs.Statuses as statuses
use Rattle.mscp_packet.specs.declared.command.MoveKind.{MoveKind}
use Rattle.mscp_packet.specs.declared.command.MoveKind.TheVariants as moves
use Rattle.mscp_packet.specs.declared.command.Order.{Order}
use Rattle.mscp_packet.specs.declared.command.Order.TheVariants as orders
use Rattle.mscp_drive.specs.declared.block.Block.{Block}
use Rattle.mscp_drive.specs.declared.block.Block.TheVariants as blocks
use Rattle.mscp_drive.specs.declared.connection.Connection.{Connection}
use Rattle.mscp_queue.specs.declared.upcoming.Upcoming.{Upcoming}
use Rattle.mscp_port.specs.declared.action.Outcome.{Outcome}
use Rattle.mscp_port.specs.declared.action.Outcome.TheVariants as outcomes
use Rattle.mscp_port.specs.declared.buffers.Buffer.{Buffer}
use Rattle.mscp_port.specs.declared.task.Task.{Task}
use Rattle.mscp_port.specs.declared.task.Task.TheVariants as tasks
use Rattle.mscp_port.specs.declared.verdict.Verdict.{Verdict}
use Rattle.mscp_port.specs.declared.verdict.Verdict.TheVariants as verdicts
use Rattle.mscp_port.specs.declared.volumes.Volume.{Volume}
use Rattle.mscp_port.specs.Buffers.{is_of, part_of}

-- ---- transfers

-- a transfer that moves bytes of host memory
abbrev pub has_host_bytes : MoveKind → Bool
has_host_bytes moves.Access = false
has_host_bytes moves.Erase = false
has_host_bytes moves.Compare = true
has_host_bytes moves.Read = true
has_host_bytes moves.Write = true

-- one that writes to the volume
abbrev pub writes : MoveKind → Bool
writes moves.Access = false
writes moves.Erase = true
writes moves.Compare = false
writes moves.Read = false
writes moves.Write = true

-- how a step moves a block, and which: none of another order than a transfer, nor of one to a unit that is available
abbrev pub moved_by : Order → Option ℕ → Option (MoveKind × ℕ)
moved_by (orders.Move kind count first) (Some block) = Some (kind, block)
moved_by order lbn = None

abbrev pub move_of : Upcoming → Option (MoveKind × ℕ)
move_of u = moved_by u.command.order u.lbn

-- ---- why a step isn't taken

-- it ends its command with this status
abbrev pub faulted : ℕ → Verdict
faulted status = verdicts.Served (blocks.Bad status)

-- the first that holds: the unit isn't online with its volume, the address or the count is odd, the volume is
-- protected by the host or by the hardware, or it has no such block (only
-- restored bytes say that)
abbrev pub refusal_of : MoveKind → ℕ → Buffer → Volume → Option Verdict
refusal_of kind block b v =
    if not v.is_mounted then Some verdicts.NotOnline
    else if has_host_bytes kind && b.address % 2 == 1 then Some (faulted statuses.odd_address)
    else if b.count % 2 == 1 then Some (faulted statuses.odd_count)
    else if writes kind && v.is_protected_by_host then Some (faulted statuses.protected_by_host)
    else if writes kind && v.is_protected then Some (faulted statuses.protected)
    else if nat_le v.size block then Some (faulted statuses.drive_error)
    else None

-- no volume, or another one than when the command came
abbrev pub has_changed : Buffer → Volume → Bool
has_changed b v = not v.is_there || not (b.changes == v.changes)

-- how a command goes that waited meanwhile. If its unit has come online with another volume, its host isn't told that
-- the unit is offline, but of a drive's error
abbrev pub changed_verdict : Volume → Verdict
changed_verdict v = if v.is_mounted then faulted statuses.drive_error else verdicts.NoVolume

abbrev pub fault_with : MoveKind → ℕ → Buffer → Volume → Option Verdict
fault_with kind block b v = if has_changed b v then Some (changed_verdict v) else refusal_of kind block b v

-- past the end of the buffer memory isn't there
abbrev pub unless_fault : Option Verdict → Option (ℕ × ℕ) → Result (ℕ × ℕ) Verdict
unless_fault (Some verdict) part = Err verdict
unless_fault None None = Err (faulted statuses.missing)
unless_fault None (Some part) = Ok part

-- the part of its command's buffer that a step is about which moves this block so, behind so many others, or how it
-- goes that may not go on
abbrev pub part_with : MoveKind → ℕ → ℕ → Buffer → Volume → Result (ℕ × ℕ) Verdict
part_with kind block done b v = unless_fault (fault_with kind block b v) (part_of b done)

-- ---- what is done for a step

abbrev pub kept_at : Option ℕ → List Buffer → Option Buffer
kept_at None buffers = None
kept_at (Some place) buffers = slice_get buffers place

-- what is kept of the command of a connection and reference number
abbrev pub kept_of : Connection → ℕ → List Buffer → Option Buffer
kept_of via reference buffers = kept_at (position (is_of via reference) buffers) buffers

abbrev pub good_step : Task
good_step = tasks.Step (verdicts.Served blocks.Good)

-- a transfer of no bytes moves nothing
abbrev pub part_task : Result (ℕ × ℕ) Verdict → Task
part_task (Ok part) = if part.1 == 0 then good_step else tasks.Transfer
part_task (Err verdict) = tasks.Step verdict

-- by how it moves a block, if it moves one
abbrev pub move_task : Upcoming → Option (MoveKind × ℕ) → Buffer → Volume → Task
move_task u None b v = good_step
move_task u (Some move) b v = part_task (part_with move.0 move.1 u.done b v)

abbrev pub is_available : Order → Bool
is_available orders.Available = true
is_available order = false

-- ONLINE and SET UNIT CHARACTERISTICS are about the volume that is there as they end, whichever it is
abbrev pub takes_any_volume : Order → Bool
takes_any_volume orders.Online = true
takes_any_volume orders.SetUnit = true
takes_any_volume order = false

-- for a step of a command, of whose message this is kept, and whose unit has this volume. AVAILABLE wants no volume
abbrev pub task_of : Upcoming → Buffer → Volume → Task
task_of u b v =
    if is_available u.command.order then good_step
    else if v.is_there && takes_any_volume u.command.order then good_step
    else if has_changed b v then tasks.Step (changed_verdict v)
    else move_task u (move_of u) b v

-- how a block was served whose action went so: memory isn't there, has a parity error, isn't mapped; bytes differ
abbrev pub block_of : Outcome → Block
block_of outcomes.Done = blocks.Good
block_of outcomes.Missing = blocks.Bad statuses.missing
block_of outcomes.Parity = blocks.Bad statuses.parity
block_of outcomes.Unmapped = blocks.Bad statuses.unmapped
block_of outcomes.Different = blocks.Bad statuses.different
block_of (outcomes.Failed status) = blocks.Bad status

-- what the controller is told, which doesn't know of volumes: a step that had none is a drive's error there
abbrev pub block_told : Verdict → Block
block_told (verdicts.Served block) = block
block_told verdicts.NoVolume = blocks.Bad statuses.drive_error
block_told verdicts.NotOnline = blocks.Bad statuses.drive_error
