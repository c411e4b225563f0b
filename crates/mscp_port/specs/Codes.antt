-- What has no number of its own, as numbers, and what numbers stand for.
use Rattle.std.specs.Prelude.{◌≡◌, ℕ, ◌%◌, ◌≤◌, ◌<◌, ◌&&◌, Bool, true, nat_eq, nat_le, nat_lt, if◌then◌else◌, Option, Some, None, is_some}
use Rattle.mscp_packet.specs.StatusCodes as codes
use Rattle.mscp_packet.specs.Statuses.{code_of}
use Rattle.mscp_drive.specs.declared.block.Block.{Block}
use Rattle.mscp_drive.specs.declared.block.Block.TheVariants.{Good, Bad}
use Rattle.mscp_saved.specs.Saved.{flag_byte}
use Rattle.mscp_port.specs.declared.codes.Coded.{Coded}
use Rattle.mscp_port.specs.declared.hardware.Bus.{Bus}
use Rattle.mscp_port.specs.declared.hardware.Bus.TheVariants.{Q, Uni}
use Rattle.mscp_port.specs.declared.rings.Side.{Side}
use Rattle.mscp_port.specs.declared.rings.Side.TheVariants.{Responses, Commands}
use Rattle.mscp_port.specs.declared.slot.Descriptor.{Descriptor}
use Rattle.mscp_port.specs.declared.stage.Stage.{Stage}
use Rattle.mscp_port.specs.declared.stage.Stage.TheVariants as stages
use Rattle.mscp_port.specs.declared.task.Task.{Task}
use Rattle.mscp_port.specs.declared.task.Task.TheVariants as tasks
use Rattle.mscp_port.specs.declared.verdict.Verdict.{Verdict}
use Rattle.mscp_port.specs.declared.verdict.Verdict.TheVariants as verdicts
use Rattle.mscp_port.specs.Sizes.{clear_size, text_size}

-- ---- what there may be

-- whether there is something
abbrev pub some_byte : {X : Type 0} → Option X → ℕ
some_byte None = 0
some_byte (Some x) = 1

abbrev pub number_or_none : Option ℕ → ℕ
number_or_none None = 0
number_or_none (Some n) = n

abbrev pub optional : {X : Type 0} → ℕ → X → Option X
optional byte x = if nat_eq byte 1 then Some x else None

-- ---- a bus, and a ring

abbrev pub bus_byte : Bus → ℕ
bus_byte Q = 1
bus_byte Uni = 2

abbrev pub bus_in : ℕ → Bus
bus_in byte = if nat_eq byte 1 then Q else Uni

abbrev pub side_byte : Side → ℕ
side_byte Responses = 1
side_byte Commands = 2

abbrev pub side_in : ℕ → Side
side_in byte = if nat_eq byte 1 then Responses else Commands

-- ---- a stage: its number, and the word that it has

abbrev pub stage_byte : Stage → ℕ
stage_byte stages.First = 0
stage_byte (stages.Wrapped word) = 1
stage_byte stages.Second = 2
stage_byte stages.Third = 3
stage_byte stages.Purging = 4
stage_byte stages.Probing = 5
stage_byte stages.Clearing = 6
stage_byte stages.Last = 7
stage_byte stages.Up = 8
stage_byte (stages.Dead code) = 9

abbrev pub stage_word : Stage → ℕ
stage_word (stages.Wrapped word) = word
stage_word (stages.Dead code) = code
stage_word stage = 0

abbrev pub stage_in : ℕ → ℕ → Stage
stage_in byte word =
    if nat_eq byte 1 then stages.Wrapped word else (
    if nat_eq byte 2 then stages.Second else (
    if nat_eq byte 3 then stages.Third else (
    if nat_eq byte 4 then stages.Purging else (
    if nat_eq byte 5 then stages.Probing else (
    if nat_eq byte 6 then stages.Clearing else (
    if nat_eq byte 7 then stages.Last else (
    if nat_eq byte 8 then stages.Up else (
    if nat_eq byte 9 then stages.Dead word else stages.First))))))))

-- ---- a task: its number, and what is known for it. Of which command and block it is, the controller knows

abbrev pub nothing : Coded
nothing = record { task = 0; whom = 0; first = 0; second = 0; two = 0; how = 0 }

-- how a step went: its number, and the status of a bad block
abbrev pub bad_byte : Block → ℕ
bad_byte Good = 0
bad_byte (Bad status) = 1

abbrev pub bad_status : Block → ℕ
bad_status Good = 0
bad_status (Bad status) = status

abbrev pub verdict_byte : Verdict → ℕ
verdict_byte (verdicts.Served block) = bad_byte block
verdict_byte verdicts.NoVolume = 2
verdict_byte verdicts.NotOnline = 3

abbrev pub verdict_status : Verdict → ℕ
verdict_status (verdicts.Served block) = bad_status block
verdict_status verdict = 0

abbrev pub verdict_in : ℕ → ℕ → Verdict
verdict_in byte status =
    if nat_eq byte 2 then verdicts.NoVolume else (
    if nat_eq byte 3 then verdicts.NotOnline else (
    if nat_eq byte 1 && nat_le codes.media_format_error (code_of status) then verdicts.Served (Bad status)
    else verdicts.Served Good))

abbrev pub coded_task : Task → Coded
coded_task tasks.Free = nothing
coded_task tasks.Settle = record nothing { task = 1 }
coded_task (tasks.Clear done) = record nothing { task = 2; first = done }
coded_task (tasks.Slot side) = record nothing { task = 3; whom = side_byte side }
coded_task (tasks.Header slot) = record nothing { task = 4; first = slot.word }
coded_task (tasks.Text slot size foreign) =
    record nothing { task = 5; whom = flag_byte foreign; first = slot.word; second = size }
coded_task (tasks.Packet slot) = record nothing { task = 6; first = slot.word }
coded_task (tasks.Return side slot) = record nothing { task = 7; whom = side_byte side; first = slot.word }
coded_task (tasks.Neighbour side) = record nothing { task = 8; whom = side_byte side }
coded_task (tasks.Word side) = record nothing { task = 9; whom = side_byte side }
coded_task tasks.Interrupt = record nothing { task = 10 }
coded_task (tasks.Step verdict) =
    record nothing { task = 11; two = verdict_status verdict; how = verdict_byte verdict }
coded_task tasks.Transfer = record nothing { task = 12 }

-- the clearing of the area behind so many bytes, if they are parts of one
abbrev pub clear_task : Option ℕ → Task
clear_task None = tasks.Free
clear_task (Some done) = tasks.Clear done

-- the reading of a text of this size, if it is one
abbrev pub text_task : Descriptor → Bool → Option ℕ → Task
text_task slot foreign None = tasks.Free
text_task slot foreign (Some size) = tasks.Text slot size foreign

-- what comes before the rings are in use
abbrev pub early_task_in : Coded → Task
early_task_in c =
    if nat_eq c.task 1 then tasks.Settle else (
    if nat_eq c.task 2 then clear_task (clear_size c.first) else tasks.Free)

-- what is done with the rings
abbrev pub ring_task_in : Coded → Task
ring_task_in c =
    if nat_eq c.task 3 then tasks.Slot (side_in c.whom) else (
    if nat_eq c.task 4 then tasks.Header (record { word = c.first }) else (
    if nat_eq c.task 5 then text_task (record { word = c.first }) (nat_eq c.whom 1) (text_size c.second) else (
    if nat_eq c.task 6 then tasks.Packet (record { word = c.first }) else (
    if nat_eq c.task 7 then tasks.Return (side_in c.whom) (record { word = c.first }) else (
    if nat_eq c.task 8 then tasks.Neighbour (side_in c.whom) else tasks.Word (side_in c.whom))))))

-- what is done for a command
abbrev pub block_task_in : Coded → Task
block_task_in c =
    if nat_eq c.task 11 then tasks.Step (verdict_in c.how c.two) else (
    if nat_eq c.task 12 then tasks.Transfer else tasks.Interrupt)

abbrev pub task_in : Coded → Task
task_in c =
    if nat_lt c.task 3 then early_task_in c else (
    if nat_lt c.task 10 then ring_task_in c else block_task_in c)

-- the size that a task has by its numbers, if it has one, is such as a task of its kind has
abbrev pub has_size : Coded → Bool
has_size c =
    if nat_eq c.task 2 then is_some (clear_size c.first) else (
    if nat_eq c.task 5 then is_some (text_size c.second) else true)

-- so much is clear as may be while more is to be cleared, a text has a size of one, and a status is one of those that a
-- block may end with
abbrev pub IsTask : Task → Type 0
IsTask (tasks.Clear done) = (done % 64 ≡ 0) × (done < 1032)
IsTask (tasks.Text slot size foreign) = (12 ≤ size) × (size ≤ 64)
IsTask (tasks.Step (verdicts.Served (Bad status))) = codes.media_format_error ≤ code_of status
IsTask task = Unit {0}
