-- What is called of a port, and what becomes of it.
use Rattle.std.specs.Prelude.{◌≡◌, ◌≢◌, ◌≤◌, ◌<◌, ◌==◌, ◌+◌, ◌%◌, ◌/◌, ◌⊎◌, ℕ, Bool, true, false, nat_lt, if◌then◌else◌, List, [], length, Contains, IfSome, IsErr, IsOk, MatchBool, OnErr, Result, Option, None, Some}
use Rattle.mscp_drive.specs.declared.connection.Connection.TheVariants.{First}
use Rattle.mscp_queue.specs.declared.view.Choice.{Choice}
use Rattle.mscp_controller.specs.Holdings.{after_message, Holdings}
use Rattle.mscp_port.specs.declared.action.Action.{Action}
use Rattle.mscp_port.specs.declared.action.Action.TheVariants as actions
use Rattle.mscp_port.specs.declared.action.Outcome.{Outcome}
use Rattle.mscp_port.specs.declared.action.Unasked.{Unasked}
use Rattle.mscp_port.specs.declared.buffers.Buffer.{Buffer}
use Rattle.mscp_port.specs.declared.hardware.Hardware.{Hardware}
use Rattle.mscp_port.specs.declared.port.Port.{Port}
use Rattle.mscp_port.specs.declared.slot.Descriptor.{Descriptor}
use Rattle.mscp_port.specs.declared.stage.Stage.TheVariants as stages
use Rattle.mscp_port.specs.declared.task.Task.{Task}
use Rattle.mscp_port.specs.declared.task.Task.TheVariants as tasks
use Rattle.mscp_port.specs.Acted.{Acts, step_task}
use Rattle.mscp_port.specs.Areas.{rings_named}
use Rattle.mscp_port.specs.Messages.{handed, own_end_of}
use Rattle.mscp_port.specs.Moved.{BeginsBlock, GoesOnWithBlock, IsStepping, MayMoveOn, Moves}
use Rattle.mscp_port.specs.Outgoings.{AnswersItself, HasSaid, Says}
use Rattle.mscp_packet.specs.declared.command.MoveKind.{MoveKind}
use Rattle.mscp_port.specs.Ports.{Drops, IsAlive, IsAsNew, IsDue, IsIdle, IsOfBlock, IsOutcomeOf, IsReadingText, IsWithin, Learns, Leaves, in_hand, read_size}
use Rattle.mscp_port.specs.Registers.{shown}
use Rattle.mscp_port.specs.Seen.{Sees}
use Rattle.mscp_port.specs.Serials.{is_of_serial, serial_after}
use Rattle.mscp_port.specs.Wanted.{IsWanted}
use Rattle.mscp_port.specs.Volumes.{no_volume, volume_at}

-- a fatal error: all that the host has said is forgotten, and nothing goes on until it writes IP
abbrev pub Dies : {K : Type 0} → Port K → Port K → Type 0
Dies old new = (code : ℕ) × IsAsNew (stages.Dead code) old new

-- a port was made over a controller, for a host that may have so many commands outstanding: it is in the first step of
-- its initialisation, and knows nothing
pub record IsMadeOf {K : Type 0} (made_hardware : Hardware) (credits : ℕ) (made_over : Holdings K) (p : Port K)
    : Type 0 where
  pub over : p.controller ≡ made_over
  pub hardware : p.hardware ≡ made_hardware
  -- all credits but one are to be told
  pub credit : p.more + 1 ≡ credits
  pub untold : p.untold ≡ p.more
  pub first : p.stage ≡ stages.First
  pub words : p.words ≡ record { first = 0; second = 0 }
  pub written : p.written ≡ None
  pub rings : p.rings ≡ None
  pub responses : p.responses ≡ 0
  pub commands : p.commands ≡ 0
  pub free : p.task ≡ tasks.Free
  pub outgoing : p.outgoing ≡ None
  pub polled : p.is_polled ≡ false
  pub stalled : p.is_stalled ≡ false
  pub full : p.is_full ≡ false
  pub owes : p.owes_block ≡ false
  pub serial : p.serial ≡ 0
  pub buffers : p.buffers.items ≡ []
  pub decided : p.decided.items ≡ []
  pub volumes : (place : ℕ) → place < 16 → volume_at p.volumes place ≡ no_volume
  pub flags : p.flags ≡ 0
  -- a host has no limit before its first command, and one minute then, if it says nothing else
  pub timeout : p.timeout ≡ 0
  pub left : p.left ≡ 60

-- ---- registers

-- what register SA shows
abbrev pub sa_of : {K : Type 0} → Port K → ℕ
sa_of p = shown p.hardware p.words.first p.stage

-- the host wrote IP: the port is as new, in the first step of its initialisation
abbrev pub WritesIp : {K : Type 0} → Port K → Port K → Type 0
WritesIp old new = IsAsNew stages.First old new

-- a slot whose word is being read is read again, since the host may have given it to the port meanwhile
abbrev pub read_again : Task → Task
read_again (tasks.Slot side) = tasks.Free
read_again task = task

-- the host read IP: the port is to look at the ring of commands, or in the poll test to clear the communication area
pub record ReadsIp {K : Type 0} (old new : Port K) : Type 0 where
  pub up : old.stage ≡ stages.Up
      → new ≡ record old { is_polled = true; is_full = false; task = read_again old.task }
  pub probed : old.stage ≡ stages.Probing → old.rings ≢ None
      → new ≡ record old { stage = stages.Clearing; task = tasks.Clear 0 }
  pub nowhere : old.stage ≡ stages.Probing → old.rings ≡ None → IsAsNew (stages.Dead 7) old new
  pub elsewhere : old.stage ≢ stages.Up → old.stage ≢ stages.Probing → new ≡ old
  pub frame : (new ≡ record old {
    stage = new.stage;
    task = new.task;
    is_polled = new.is_polled;
    is_full = new.is_full;
  }) ⊎ Dies old new
  pub settings : new.controller.settings ≡ old.controller.settings
  pub hand : Leaves old new ⊎ Drops old new

-- the host wrote this word to SA
pub record WritesSa {K : Type 0} (word : ℕ) (old new : Port K) : Type 0 where
  -- each of the first three steps is taken once the machine went on a little; the first word has its top bit set
  pub first : old.stage ≡ stages.First
      → new ≡ (if nat_lt word 0x8000 then old else record old { written = Some word })
  pub second : old.stage ≡ stages.Second → new ≡ record old { written = Some word }
  pub third : old.stage ≡ stages.Third → new ≡ record old { written = Some word }
  pub wrapped : (other : ℕ) → old.stage ≡ stages.Wrapped other → new ≡ record old { stage = stages.Wrapped word }
  pub purged : old.stage ≡ stages.Purging → word ≡ 0 → new ≡ record old { stage = stages.Probing }
  pub not_purged : old.stage ≡ stages.Purging → word ≢ 0 → IsAsNew (stages.Dead 21) old new
  -- go, by the lowest bit
  pub last : old.stage ≡ stages.Last → new ≡ (if word % 2 == 1 then record old { stage = stages.Up } else old)
  pub probing : old.stage ≡ stages.Probing → new ≡ old
  pub clearing : old.stage ≡ stages.Clearing → new ≡ old
  pub up : old.stage ≡ stages.Up → new ≡ old
  pub dead : (code : ℕ) → old.stage ≡ stages.Dead code → new ≡ old
  pub frame : (new ≡ record old { stage = new.stage; written = new.written }) ⊎ Dies old new
  pub settings : new.controller.settings ≡ old.controller.settings
  pub hand : Leaves old new ⊎ Drops old new

-- ---- what is wanted

-- this action is wanted next, where blocks are asked for, or messages alone
pub record Wants {K : Type 0} (picks : List Choice → ℕ → Type 0) (blocks : Bool) (old : Port K) (action : Action)
    (new : Port K) : Type 0 where
  pub frame : new ≡ record old {
    controller = new.controller;
    outgoing = new.outgoing;
    decided = new.decided;
    is_stalled = new.is_stalled;
    serial = new.serial;
    volumes = new.volumes;
    task = new.task;
  }
  -- it touches only memory that the port knows, of which it learns nothing
  pub within : IsWithin new action
  pub packet : IfSome (in_hand new.task) (λ word. in_hand old.task ≡ Some word)
  -- after a fatal error nothing is wanted
  pub dead : (code : ℕ) → old.stage ≡ stages.Dead code → (action ≡ actions.Rest) × (new ≡ old)
  -- nothing is wanted only then, or if nothing is in hand and nothing is due
  pub rests : action ≡ actions.Rest → ((code : ℕ) × (old.stage ≡ stages.Dead code)) ⊎ IsIdle blocks new
  -- otherwise it is what is wanted for the thing in hand
  pub wanted : IsAlive old → IsWanted new new.task action
  -- which is what is due, where there was nothing
  pub due : IsAlive old → old.task ≡ tasks.Free → IsDue blocks new new.task
  -- of a block it is what the controller has begun, by its picker's word
  pub begins : IsAlive old → old.task ≡ tasks.Free → IsOfBlock new.task → BeginsBlock picks new.task old new
  -- and what goes out next: ends leave in the order in which the controller has them. Of the controller nothing else
  -- changes but what it has begun, and that only for a block
  pub says : Says old new
  pub begun : (IsOfBlock new.task → ⊥) → new.controller.begun ≡ old.controller.begun
  -- a step that wasn't begun before has the next serial
  pub serial : new.serial ≡ serial_after old.controller.begun new.controller.begun old.serial
  pub settings : new.controller.settings ≡ old.controller.settings
  -- a block is moved only if its unit has it, on a volume that is there, with which the unit is online, and that may be
  -- written on if it is
  pub moves : (kind : MoveKind) (unit block address count : ℕ)
      → action ≡ actions.Transfer kind unit block address count
      → MayMoveOn kind unit block new
  -- what is in hand stays so until it is told how that went
  pub goes_on : old.task ≢ tasks.Free → new ≡ old

-- ---- what was read

-- what may change as bytes are read, but for a fatal error
abbrev pub ChangesByReading : {K : Type 0} → Port K → Port K → Type 0
ChangesByReading old new = (new ≡ record old {
  controller = new.controller;
  task = new.task;
  outgoing = new.outgoing;
  is_polled = new.is_polled;
  is_stalled = new.is_stalled;
  is_full = new.is_full;
  owes_block = new.owes_block;
  buffers = new.buffers;
  decided = new.decided;
  flags = new.flags;
  timeout = new.timeout;
  left = new.left;
}) ⊎ Dies old new

-- these bytes were read, as it wanted
pub record Hears {K : Type 0} (bytes : List ℕ) (old : Port K) (result : Result Unit Unasked) (new : Port K)
    : Type 0 where
  pub dead : (code : ℕ) → old.stage ≡ stages.Dead code → IsErr result
  -- as many bytes as are wanted are taken, and no others
  pub taken : IsAlive old → read_size old.task ≡ Some (length bytes) → IsOk result
  pub only : IsOk result → read_size old.task ≡ Some (length bytes)
  pub unasked : OnErr result (new ≡ old)
  pub sees : IsOk result → Sees bytes old new
  pub frame : ChangesByReading old new
  -- no serial is given
  pub serial : new.serial ≡ old.serial
  pub learns : Learns bytes old new
  pub settings : new.controller.settings ≡ old.controller.settings
  -- a message reaches the controller as its host wrote it, unless the port answers it itself
  pub handed : (slot : Descriptor) (size : ℕ) (foreign : Bool) → old.task ≡ tasks.Text slot size foreign
      → IsOk result → own_end_of old foreign bytes ≡ None
      → new.controller ≡ after_message First old.controller (handed old.controller.settings.units bytes)
  pub own : (slot : Descriptor) (size : ℕ) (foreign : Bool) → old.task ≡ tasks.Text slot size foreign
      → own_end_of old foreign bytes ≢ None → new.controller ≡ old.controller
  pub nothing_else : (IsReadingText old.task → ⊥) → (new.controller ≡ old.controller) ⊎ Dies old new
  -- what goes out stays so; where nothing did, it may be the port's own end
  pub out : (new.outgoing ≡ old.outgoing) ⊎ ((slot : Descriptor) × (size : ℕ) × (foreign : Bool)
      × (old.task ≡ tasks.Text slot size foreign) × AnswersItself foreign bytes old new) ⊎ Dies old new

-- ---- how an action went

-- the word with which the host has answered the step of the initialisation that is taken, if one is
abbrev pub step_answered : Task → Option ℕ → Option ℕ
step_answered tasks.Settle written = written
step_answered task written = None

-- a step of the initialisation that the host has answered with this word is taken
pub record TakesStep {K : Type 0} (word : ℕ) (old new : Port K) : Type 0 where
  -- by its first word it wants whatever it writes to be shown again
  pub wrap : old.stage ≡ stages.First → word / 0x4000 % 2 ≡ 1
      → new ≡ record old { stage = stages.Wrapped word; written = None; task = tasks.Free }
  pub first : old.stage ≡ stages.First → word / 0x4000 % 2 ≢ 1 → new ≡ record old {
    stage = stages.Second;
    words = record old.words { first = word };
    written = None;
    task = step_task word tasks.Free;
  }
  pub second : old.stage ≡ stages.Second → new ≡ record old {
    stage = stages.Third;
    words = record old.words { second = word };
    written = None;
    task = step_task old.words.first tasks.Free;
  }
  -- the communication area is named: it is cleared at once, or after the purge and poll test, for which the top bit of
  -- the word is set
  pub probe : old.stage ≡ stages.Third → 0x8000 ≤ word → new ≡ record old {
    stage = stages.Purging;
    rings = rings_named old.words.first old.words.second word;
    written = None;
    task = tasks.Free;
  }
  pub clear : old.stage ≡ stages.Third → word < 0x8000 → rings_named old.words.first old.words.second word ≢ None
      → new ≡ record old {
        stage = stages.Clearing;
        rings = rings_named old.words.first old.words.second word;
        written = None;
        task = tasks.Clear 0;
      }
  pub nowhere : old.stage ≡ stages.Third → word < 0x8000 → rings_named old.words.first old.words.second word ≡ None
      → IsAsNew (stages.Dead 7) old new
  pub elsewhere : old.stage ≢ stages.First → old.stage ≢ stages.Second → old.stage ≢ stages.Third
      → new ≡ record old { written = None; task = tasks.Free }

-- what may change as a step of the controller is taken
abbrev pub ChangesByService : {K : Type 0} → Port K → Port K → Type 0
ChangesByService old new = new ≡ record old {
  controller = new.controller;
  task = new.task;
  owes_block = new.owes_block;
  buffers = new.buffers;
  decided = new.decided;
  volumes = new.volumes;
}

-- what may change as a step of the initialisation is taken
abbrev pub ChangesByWord : {K : Type 0} → Port K → Port K → Type 0
ChangesByWord old new = new ≡ record old {
  stage = new.stage;
  words = new.words;
  written = new.written;
  rings = new.rings;
  task = new.task;
}

-- what may change as something is found that goes out
abbrev pub ChangesBySaying : {K : Type 0} → Port K → Port K → Type 0
ChangesBySaying old new = new ≡ record old {
  controller = new.controller;
  outgoing = new.outgoing;
  decided = new.decided;
  is_stalled = new.is_stalled;
  serial = new.serial;
  volumes = new.volumes;
}

-- what may change as an action went, but for a step that is taken: of a block only what follows it
abbrev pub ChangesByActing : {K : Type 0} → (List Choice → ℕ → Type 0) → Port K → Port K → Type 0
ChangesByActing picks old new = (new ≡ record old {
  untold = new.untold;
  stage = new.stage;
  responses = new.responses;
  commands = new.commands;
  task = new.task;
  outgoing = new.outgoing;
  is_stalled = new.is_stalled;
}) ⊎ (IsStepping old.task × GoesOnWithBlock picks old new) ⊎ Dies old new

-- the stage stays, or is the last step of the initialisation, once the communication area is clear
abbrev pub StaysInStage : {K : Type 0} → Port K → Port K → Type 0
StaysInStage old new = (new.stage ≡ old.stage) ⊎ (new.stage ≡ stages.Last) ⊎ Dies old new

-- the volumes stay, and the commands that wait, with what is kept of them, and whether a poll was heard since a step
pub record KeepsCommands {K : Type 0} (old new : Port K) : Type 0 where
  pub volumes : new.volumes ≡ old.volumes
  pub controller : new.controller ≡ old.controller
  pub buffers : new.buffers ≡ old.buffers
  pub owes : new.owes_block ≡ old.owes_block

-- a packet is in hand
abbrev pub HoldsPacket : Task → Type 0
HoldsPacket (tasks.Packet slot) = Unit {0}
HoldsPacket task = ⊥

-- an action that isn't a read went so, or a read failed so
pub record Goes {K : Type 0} (picks : List Choice → ℕ → Type 0) (outcome : Outcome) (old : Port K)
    (result : Result Unit Unasked) (new : Port K) : Type 0 where
  pub dead : (code : ℕ) → old.stage ≡ stages.Dead code → IsErr result
  pub taken : IsAlive old → IsOutcomeOf old.task outcome → IsOk result
  pub only : IsOk result → IsOutcomeOf old.task outcome
  pub unasked : OnErr result (new ≡ old)
  pub acts : IsOk result → Acts outcome old new
  -- of a step in hand the controller takes it, by its picker's word
  pub moves : IsOk result → Moves picks outcome old new
  pub steps : IsOk result → IfSome (step_answered old.task old.written) (λ word. TakesStep word old new)
  pub settings : new.controller.settings ≡ old.controller.settings
  pub still : step_answered old.task old.written ≡ None → ChangesByActing picks old new × StaysInStage old new
  -- no serial is given
  pub serial : new.serial ≡ old.serial
  pub commands : KeepsCommands old new ⊎ (IsStepping old.task × GoesOnWithBlock picks old new) ⊎ Dies old new
  -- its credits are told by a packet alone
  pub credits : HoldsPacket old.task ⊎ ((new.untold ≡ old.untold) × (new.more ≡ old.more)) ⊎ Dies old new
  -- of its host's memory the port learns nothing but the area
  pub buffers : (b : Buffer) → Contains new.buffers.items b → Contains old.buffers.items b
  pub packet : IfSome (in_hand new.task) (λ word. in_hand old.task ≡ Some word)
  -- what goes out stays so until its slot was given back, which comes only after its packet was written
  pub out : (new.outgoing ≡ old.outgoing) ⊎ HasSaid outcome old new ⊎ Dies old new

-- the block of this serial went so, by `Goes` if it is in hand: else nothing is taken
abbrev pub GoesBy : {K : Type 0} → (List Choice → ℕ → Type 0) → ℕ → Outcome → Port K → Result Unit Unasked → Port K
    → Type 0
GoesBy picks serial outcome old result new = MatchBool (is_of_serial serial old.task old.serial)
    (Goes picks outcome old result new) (IsErr result × (new ≡ old))
