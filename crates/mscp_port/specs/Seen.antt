-- What follows what was read in host memory (port: UQSSP, "Ring Entries", "Envelope Header").
use Rattle.std.specs.Prelude.{◌≡◌, ◌≢◌, ◌≤◌, ℕ, ◌/◌, ◌%◌, ◌==◌, ◌&&◌, ◌||◌, not, Bool, true, false, nat_lt, slice_index, if◌then◌else◌, List, length, MatchOption, Result, Option, None, Some, Ok, Err}
use Rattle.mscp_packet.specs.Number.{num}
use Rattle.mscp_packet.specs.OpcodeBytes as opcodes
use Rattle.mscp_drive.specs.declared.connection.Connection.TheVariants.{First}
use Rattle.mscp_controller.specs.Holdings.{answer_to_message}
use Rattle.mscp_controller.specs.declared.entry.SendFault.{SendFault}
use Rattle.mscp_controller.specs.declared.entry.Sent.{Sent}
use Rattle.mscp_controller.specs.declared.entry.Sent.TheVariants as sents
use Rattle.mscp_port.specs.declared.port.Port.{Port}
use Rattle.mscp_port.specs.declared.rings.Side.{Side}
use Rattle.mscp_port.specs.declared.rings.Side.TheVariants.{Responses, Commands}
use Rattle.mscp_port.specs.declared.slot.Descriptor.{Descriptor}
use Rattle.mscp_port.specs.declared.stage.Stage.TheVariants as stages
use Rattle.mscp_port.specs.declared.task.Task.{Task}
use Rattle.mscp_port.specs.declared.task.Task.TheVariants as tasks
use Rattle.mscp_port.specs.declared.volumes.Volume.{Volume}
use Rattle.mscp_port.specs.declared.buffers.Buffer.{Buffer}
use Rattle.mscp_port.specs.Buffers.{buffer_in, kept_beside, without_aborted}
use Rattle.mscp_port.specs.Decided.{decided_after}
use Rattle.mscp_port.specs.Messages.{handed, own_end_of}
use Rattle.mscp_port.specs.Outgoings.{AnswersItself}
use Rattle.mscp_port.specs.Ports.{IsAsNew, seconds}
use Rattle.mscp_port.specs.Slots.{is_owned}
use Rattle.mscp_port.specs.Volumes.{place_in, volume_at}

-- ---- a slot of a ring

-- the next slot of a ring: one that is the port's is taken in hand, and else there is nothing to do with the ring
abbrev pub slot_seen : {K : Type 0} → Side → Descriptor → Port K → Port K
slot_seen Responses slot p =
    if is_owned slot.word then record p { task = tasks.Packet slot }
    else record p { is_full = true; task = tasks.Free }
slot_seen Commands slot p =
    if is_owned slot.word then record p { task = tasks.Header slot }
    else record p { is_polled = false; task = tasks.Free }

-- the slot in front of the one that was given back: if it is the port's, the interrupt word is written
abbrev pub neighbour_seen : Side → ℕ → Task
neighbour_seen side word = if is_owned word then tasks.Word side else tasks.Free

-- ---- the header of a packet

-- its low half is the length of the text, bits 20 to 23 are its type, and the high byte is its connection
abbrev pub length_in : ℕ → ℕ
length_in h = h % 0x1_0000

abbrev pub type_in : ℕ → ℕ
type_in h = h / 0x10_0000 % 0x10

abbrev pub connection_in : ℕ → ℕ
connection_in h = h / 0x100_0000

-- the bytes of a text that the port reads: of a longer one the first 64
abbrev pub bytes_read : ℕ → ℕ
bytes_read length = if nat_lt 64 length then 64 else length

-- the fatal error that a header is, if it is one: another type than a sequential message, another connection than
-- that of the disk (0) or of the utilities (2), a text of less than 12 bytes
abbrev pub header_fault : ℕ → Option ℕ
header_fault h =
    if not (type_in h == 0) then Some 20
    else if not (connection_in h == 0 || connection_in h == 2) then Some 14
    else if nat_lt (length_in h) 12 then Some 1
    else None

-- a header was read: its text is taken in hand, or it is a fatal error
abbrev pub SeesHeader : {K : Type 0} → Descriptor → ℕ → Port K → Port K → Type 0
SeesHeader slot h old new = MatchOption (header_fault h)
    (new ≡ record old { task = tasks.Text slot (bytes_read (length_in h)) (connection_in h == 2) })
    (λ code. IsAsNew (stages.Dead code) old new)

-- ---- the text of a command

-- how often the volume of the unit at a place has changed, and 0 of no unit
abbrev pub changes_at : List Volume → Option ℕ → ℕ
changes_at volumes None = 0
changes_at volumes (Some place) = (volume_at volumes place).changes

-- what the controller answers to a message of its first connection
abbrev pub answered_to : {K : Type 0} → Port K → List ℕ → Result Sent SendFault
answered_to p b = answer_to_message First p.controller (handed p.controller.settings.units b)

-- the host was heard, and has all its seconds again
abbrev pub heard : {K : Type 0} → Port K → Port K
heard p = record p { timeout = seconds p; left = seconds p }

-- the command stays in its slot, and the host was heard
abbrev pub stays : {K : Type 0} → Port K → Port K → Type 0
stays old new = new ≡ record (heard old) { controller = new.controller; task = tasks.Free; is_stalled = true }

-- the host has set its controller's flags, and its own timeout: by a SET CONTROLLER CHARACTERISTICS that has them, of
-- version 0
abbrev pub sets_controller : List ℕ → Bool
sets_controller b =
    slice_index b 8 == opcodes.set_controller_characteristics && not (nat_lt (length b) 18) && num b 12 2 == 0

-- a message is a poll: a GET COMMAND STATUS
abbrev pub is_poll : List ℕ → Bool
is_poll b = slice_index b 8 == opcodes.get_command_status

-- behind a poll comes a block first
abbrev pub settings_heeded : {K : Type 0} → List ℕ → Port K → Port K
settings_heeded b p = record p {
  owes_block = if is_poll b then true else p.owes_block;
  flags = if sets_controller b then num b 14 2 else p.flags;
  timeout = if sets_controller b then num b 16 2 else p.timeout;
  left = if sets_controller b then num b 16 2 else p.left;
}

-- a message that the controller answered at once is heeded
abbrev pub heeded : {K : Type 0} → Sent → List ℕ → Port K → Port K
heeded (sents.Queued reference) b p = p
heeded (sents.Answered reference aborted) b p = settings_heeded b p

-- of a command that is queued it is kept where its data are, and of one that was aborted it is forgotten
abbrev pub kept_of_sent : Sent → Buffer → List Buffer → List Buffer
kept_of_sent (sents.Queued reference) b buffers = kept_beside b buffers
kept_of_sent (sents.Answered reference aborted) b buffers = without_aborted aborted buffers

-- the controller has got a message: its slot is given back, and the host was heard
pub record Sends {K : Type 0} (slot : Descriptor) (s : Sent) (bytes : List ℕ) (old new : Port K) : Type 0 where
  pub frame : new ≡ record (heeded s bytes (heard old)) {
    controller = new.controller;
    task = tasks.Return Commands slot;
    buffers = new.buffers;
    decided = new.decided;
  }
  pub decided : new.decided.items ≡ decided_after s old new
  pub kept : new.buffers.items ≡ kept_of_sent s
      (buffer_in bytes (changes_at old.volumes (place_in old.controller.settings.units (num bytes 4 2))))
      old.buffers.items

-- the text of a command was read
pub record SeesText {K : Type 0} (slot : Descriptor) (foreign : Bool) (bytes : List ℕ) (old new : Port K) : Type 0 where
  -- no text has fewer bytes
  pub long : 12 ≤ length bytes
  -- the port answers it itself, if nothing goes out yet: else it stays in its slot
  pub own : own_end_of old foreign bytes ≢ None → old.outgoing ≡ None
      → (new ≡ record (heard old) { outgoing = new.outgoing; task = tasks.Return Commands slot })
      × AnswersItself foreign bytes old new
  pub own_waits : own_end_of old foreign bytes ≢ None → old.outgoing ≢ None → stays old new
  -- or the controller gets it, and its slot is given back
  pub sent : (s : Sent) → own_end_of old foreign bytes ≡ None → answered_to old bytes ≡ Ok s
      → Sends slot s bytes old new
  -- and for want of a credit, or while its number is in use, the command stays in its slot
  pub waits : (fault : SendFault) → own_end_of old foreign bytes ≡ None → answered_to old bytes ≡ Err fault
      → stays old new

-- ---- all

-- what follows these bytes, which were wanted for what is in hand
pub record Sees {K : Type 0} (bytes : List ℕ) (old new : Port K) : Type 0 where
  pub slot : (side : Side) → old.task ≡ tasks.Slot side
      → new ≡ slot_seen side (record { word = num bytes 0 4 }) old
  pub neighbour : (side : Side) → old.task ≡ tasks.Neighbour side
      → new ≡ record old { task = neighbour_seen side (num bytes 0 4) }
  pub header : (slot : Descriptor) → old.task ≡ tasks.Header slot → SeesHeader slot (num bytes 0 4) old new
  pub text : (slot : Descriptor) (size : ℕ) (foreign : Bool) → old.task ≡ tasks.Text slot size foreign
      → SeesText slot foreign bytes old new
