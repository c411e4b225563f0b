-- What a port knows of its host's memory, and what it may touch there.
use Rattle.std.specs.Prelude.{◌≡◌, ◌≢◌, ℕ, ◌+◌, ◌-◌, ◌≤◌, ◌<◌, ◌⊎◌, nat_lt, nat_eq, not, ◌&&◌, if◌then◌else◌, Bool, true, false, List, [], length, Contains, IfSome, IsSomeAnd, Option, None, Some}
use Rattle.mscp_controller.specs.Holdings.{fresh}
use Rattle.mscp_packet.specs.Number.{num}
use Rattle.mscp_port.specs.declared.action.Action.{Action}
use Rattle.mscp_port.specs.declared.action.Action.TheVariants as actions
use Rattle.mscp_port.specs.declared.action.Ask.{Ask}
use Rattle.mscp_port.specs.declared.action.Ask.TheVariants as asks
use Rattle.mscp_port.specs.declared.action.Outcome.{Outcome}
use Rattle.mscp_port.specs.declared.action.Outcome.TheVariants as outcomes
use Rattle.mscp_port.specs.declared.buffers.Buffer.{Buffer}
use Rattle.mscp_port.specs.declared.port.Port.{Port}
use Rattle.mscp_port.specs.declared.rings.Side.TheVariants.{Responses, Commands}
use Rattle.mscp_port.specs.declared.stage.Stage.{Stage}
use Rattle.mscp_port.specs.declared.stage.Stage.TheVariants as stages
use Rattle.mscp_port.specs.declared.task.Task.{Task}
use Rattle.mscp_port.specs.declared.task.Task.TheVariants as tasks
use Rattle.mscp_port.specs.Areas.{IsInArea}
use Rattle.mscp_port.specs.Buffers.{buffer_in, IsInBuffer}
use Rattle.mscp_port.specs.Slots.{is_owned, text_of}
use Rattle.mscp_port.specs.Volumes.{volume_at, volume_reset}

-- it had no fatal error
abbrev pub IsAlive : {K : Type 0} → Port K → Type 0
IsAlive p = (code : ℕ) → p.stage ≢ stages.Dead code

-- ---- what is forgotten

-- all that the host has said is forgotten, and the port is in this stage
pub record IsAsNew {K : Type 0} (in_stage : Stage) (old new : Port K) : Type 0 where
  pub stage : new.stage ≡ in_stage
  pub hardware : new.hardware ≡ old.hardware
  -- nothing waits, and no end is left
  pub controller : new.controller ≡ fresh old.controller.settings old.controller.picker
  -- no rings, no word, no buffer, no end, and nothing in hand
  pub rings : new.rings ≡ None
  pub written : new.written ≡ None
  pub buffers : new.buffers.items ≡ []
  pub decided : new.decided.items ≡ []
  pub task : new.task ≡ tasks.Free
  pub outgoing : new.outgoing ≡ None
  pub polled : new.is_polled ≡ false
  -- each slot is to be given back anew, and each credit to be told anew
  pub responses : new.responses ≡ 0
  pub commands : new.commands ≡ 0
  pub more : new.more ≡ old.more
  pub untold : new.untold ≡ old.more
  pub words : new.words ≡ record { first = 0; second = 0 }
  pub stalled : new.is_stalled ≡ false
  pub full : new.is_full ≡ false
  pub owes : new.owes_block ≡ false
  -- no serial is given twice
  pub serial : new.serial ≡ old.serial
  pub flags : new.flags ≡ 0
  -- a host has no limit before its first command, and one minute then, if it says nothing else
  pub timeout : new.timeout ≡ 0
  pub left : new.left ≡ 60
  -- the volumes stay where they are
  pub volumes : (place : ℕ) → place < 16
      → volume_at new.volumes place ≡ volume_reset (volume_at old.volumes place)

-- the seconds of its host: those that it said, and before its first command those that are left above them
abbrev pub seconds : {K : Type 0} → Port K → ℕ
seconds p = if nat_lt p.timeout p.left then p.left else p.timeout

-- ---- what is known

-- the descriptor of the slot whose packet is in hand, if one is
abbrev pub in_hand : Task → Option ℕ
in_hand (tasks.Header slot) = Some slot.word
in_hand (tasks.Text slot length foreign) = Some slot.word
in_hand (tasks.Packet slot) = Some slot.word
in_hand (tasks.Return side slot) = Some slot.word
in_hand task = None

-- how many bytes are wanted of the host's memory, if some are: a descriptor, a header, or a text
abbrev pub read_size : Task → Option ℕ
read_size (tasks.Slot side) = Some 4
read_size (tasks.Neighbour side) = Some 4
read_size (tasks.Header slot) = Some 4
read_size (tasks.Text slot size foreign) = Some size
read_size task = None

-- what is in hand may have gone so: a read that was done is told by its bytes
abbrev pub IsOutcomeOf : Task → Outcome → Type 0
IsOutcomeOf tasks.Free outcome = ⊥
IsOutcomeOf (tasks.Slot side) outcome = outcome ≢ outcomes.Done
IsOutcomeOf (tasks.Neighbour side) outcome = outcome ≢ outcomes.Done
IsOutcomeOf (tasks.Header slot) outcome = outcome ≢ outcomes.Done
IsOutcomeOf (tasks.Text slot size foreign) outcome = outcome ≢ outcomes.Done
IsOutcomeOf task outcome = Unit {0}

-- it reads a slot of a ring
abbrev pub IsReadingSlot : Task → Type 0
IsReadingSlot (tasks.Slot side) = Unit {0}
IsReadingSlot task = ⊥

-- it reads the text of a command
abbrev pub IsReadingText : Task → Type 0
IsReadingText (tasks.Text slot length foreign) = Unit {0}
IsReadingText task = ⊥

-- a step of a command is taken, with a block or without one
abbrev pub IsOfBlock : Task → Type 0
IsOfBlock (tasks.Step verdict) = Unit {0}
IsOfBlock tasks.Transfer = Unit {0}
IsOfBlock task = ⊥

-- a block that is in hand is put aside: its step stays begun, and is taken in hand anew
abbrev pub aside : Task → Task
aside tasks.Transfer = tasks.Free
aside task = task

abbrev pub put_aside : {K : Type 0} → Port K → Port K
put_aside p = record p { task = aside p.task }

-- as it is where messages alone are asked for
abbrev pub asked : {K : Type 0} → Ask → Port K → Port K
asked asks.All p = p
asked asks.Messages p = put_aside p

-- whether blocks are asked for
abbrev pub asks_blocks : Ask → Bool
asks_blocks asks.All = true
asks_blocks asks.Messages = false

-- what the port knows of its host's memory is what it knew, and what these bytes say that it wanted: the
-- descriptor of a slot that is the port's, or the buffer in the text of a command
pub record Learns {K : Type 0} (bytes : List ℕ) (old new : Port K) : Type 0 where
  pub packet : IfSome (in_hand new.task) (λ word. (in_hand old.task ≡ Some word)
      ⊎ (IsReadingSlot old.task × (word ≡ num bytes 0 4) × (is_owned word ≡ true)))
  pub buffers : (b : Buffer) → Contains new.buffers.items b → Contains old.buffers.items b
      ⊎ (IsReadingText old.task × (changes : ℕ) × (b ≡ buffer_in bytes changes))

-- what is in hand stays so, and with it the rings, the slots that were given back, and the buffers
pub record Leaves {K : Type 0} (old new : Port K) : Type 0 where
  pub task : new.task ≡ old.task
  pub rings : new.rings ≡ old.rings
  pub responses : new.responses ≡ old.responses
  pub commands : new.commands ≡ old.commands
  pub buffers : new.buffers ≡ old.buffers

-- nothing is in hand, or the communication area is to be cleared, and no buffer is learned of
pub record Drops {K : Type 0} (old new : Port K) : Type 0 where
  pub task : (new.task ≡ tasks.Free) ⊎ (new.task ≡ tasks.Clear 0)
  pub buffers : (b : Buffer) → Contains new.buffers.items b → Contains old.buffers.items b

-- ---- what is due

-- nothing goes out, or the next slot of the ring of responses was the host's
abbrev pub HasNothingToSay : {K : Type 0} → Port K → Type 0
HasNothingToSay p = (p.outgoing ≡ None) ⊎ (p.is_full ≡ true)

-- a poll was heard and no step was taken since, a command waits, and blocks are asked for: so a block comes before the
-- next message
abbrev pub block_is_due : {K : Type 0} → Bool → Port K → Bool
block_is_due blocks p = p.owes_block && blocks && not (nat_eq (length p.controller.waiting) 0)

-- no slot of the ring of commands is looked for, or its command waits for a credit
abbrev pub HasNothingToHear : {K : Type 0} → Port K → Type 0
HasNothingToHear p = (p.is_polled ≡ false) ⊎ (p.is_stalled ≡ true)

-- the rings are in use, and there is nothing to do with them, and if blocks are asked for, no command waits
pub record IsIdleUp {K : Type 0} (blocks : Bool) (p : Port K) : Type 0 where
  pub outgoing : HasNothingToSay p
  pub polled : HasNothingToHear p
  pub waiting : blocks ≡ true → p.controller.waiting ≡ []

-- this is taken in hand: a step that the host has answered; and once the rings are in use what goes out, then what
-- comes in, and then a block, if blocks are asked for. Behind a poll comes a block first
pub record IsDue {K : Type 0} (blocks : Bool) (p : Port K) (task : Task) : Type 0 where
  pub step : p.written ≢ None → task ≡ tasks.Settle
  pub still : p.written ≡ None → p.stage ≢ stages.Up → task ≡ tasks.Free
  pub goes_out : p.written ≡ None → p.stage ≡ stages.Up → p.outgoing ≢ None → p.is_full ≡ false
      → task ≡ tasks.Slot Responses
  pub comes_in : p.written ≡ None → p.stage ≡ stages.Up → HasNothingToSay p → p.is_polled ≡ true
      → p.is_stalled ≡ false → block_is_due blocks p ≡ false → task ≡ tasks.Slot Commands
  pub first : p.written ≡ None → p.stage ≡ stages.Up → HasNothingToSay p → block_is_due blocks p ≡ true → IsOfBlock task
  pub block : p.written ≡ None → p.stage ≡ stages.Up → HasNothingToSay p → HasNothingToHear p
      → (task ≡ tasks.Free) ⊎ IsOfBlock task
  pub message : blocks ≡ false → IsOfBlock task → ⊥

-- a port rests only so: nothing is in hand, and the host has answered no step that isn't taken
pub record IsIdle {K : Type 0} (blocks : Bool) (p : Port K) : Type 0 where
  pub free : p.task ≡ tasks.Free
  pub step : p.written ≡ None
  pub up : p.stage ≡ stages.Up → IsIdleUp blocks p

-- ---- what may be touched

-- so many bytes from an address on are of the packet of this descriptor: a header of 4 bytes, and up to 64 of text
pub record IsInPacket (word address count : ℕ) : Type 0 where
  pub from : text_of word - 4 ≤ address
  pub to : address + count ≤ text_of word + 64

-- so many bytes from an address on lie in the communication area, or are of the packet in hand
abbrev pub IsInRingsOrPacket : {K : Type 0} → Port K → ℕ → ℕ → Type 0
IsInRingsOrPacket p address count =
    IsSomeAnd p.rings (λ r. IsInArea r address count)
    ⊎ IsSomeAnd (in_hand p.task) (λ word. IsInPacket word address count)

-- so many bytes from an address on lie in the buffer of a command that waits
abbrev pub IsInSomeBuffer : {K : Type 0} → Port K → ℕ → ℕ → Type 0
IsInSomeBuffer p address count = (b : Buffer) × Contains p.buffers.items b × IsInBuffer b address count

-- each action touches only memory that the port knows: its own words go to the communication area and to packets,
-- and the bytes of transfers to the buffers of commands and from them
abbrev pub IsWithin : {K : Type 0} → Port K → Action → Type 0
IsWithin p (actions.Read address count) = IsInRingsOrPacket p address count
IsWithin p (actions.Write address count) = IsInRingsOrPacket p address count
IsWithin p (actions.Transfer kind unit block address count) = IsInSomeBuffer p address count
IsWithin p action = Unit {0}
