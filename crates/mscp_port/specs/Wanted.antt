-- Which action is wanted for what a port has in hand.
use Rattle.std.specs.Prelude.{◌≡◌, ℕ, ◌+◌, ◌-◌, ◌*◌, ◌%◌, ◌==◌, length, min, replicate, List, [], MatchOption, Option, None, Some}
use Rattle.byteorder.specs.Endian.{little_bytes}
use Rattle.mscp_port.specs.declared.action.Action.{Action}
use Rattle.mscp_port.specs.declared.action.Action.TheVariants as actions
use Rattle.mscp_port.specs.declared.port.Outgoing.{Outgoing}
use Rattle.mscp_port.specs.declared.port.Port.{Port}
use Rattle.mscp_port.specs.declared.rings.Side.{Side}
use Rattle.mscp_port.specs.declared.rings.Side.TheVariants.{Responses, Commands}
use Rattle.mscp_port.specs.declared.task.Task.{Task}
use Rattle.mscp_port.specs.declared.task.Task.TheVariants as tasks
use Rattle.mscp_port.specs.Acted.{vector_in}
use Rattle.mscp_port.specs.Areas.{Rings, end_of, slot_in, slots_of, start_of, word_of}
use Rattle.mscp_packet.specs.declared.command.MoveKind.{MoveKind}
use Rattle.mscp_port.specs.Moved.{MayMoveOn, block_begun, move_wanted}
use Rattle.mscp_port.specs.Packets.{credits_told, packet_of}
use Rattle.mscp_port.specs.Ports.{IsWithin}
use Rattle.mscp_port.specs.Slots.{given_back, text_of}

-- how many slots of a ring were given back, modulo 256
abbrev pub given_in : {K : Type 0} → Port K → Side → ℕ
given_in p Responses = p.responses
given_in p Commands = p.commands

-- the vector by which the host is interrupted
abbrev pub vector_of : {K : Type 0} → Port K → ℕ
vector_of p = vector_in p.words.first

-- the area is cleared from behind so many bytes on, and not past its end
abbrev pub clear_from : {K : Type 0} → Port K → Rings → ℕ → ℕ
clear_from p r done = min (start_of r (p.words.second % 2 == 1) + done) (end_of r)

-- how many bytes are cleared at once
abbrev pub clear_count : {K : Type 0} → Port K → Rings → ℕ → ℕ
clear_count p r done = min (end_of r - clear_from p r done) 64

-- the packet of what goes out, if something does
abbrev pub packet_out : {K : Type 0} → Port K → Option Outgoing → List ℕ
packet_out p None = []
packet_out p (Some o) = packet_of (credits_told p) o.kind o.bytes.items

-- the zeros that clear an area, if the host has named the rings
abbrev pub zeros_out : {K : Type 0} → Port K → ℕ → Option Rings → List ℕ
zeros_out p done None = []
zeros_out p done (Some r) = replicate (clear_count p r done) 0

-- the bytes that are to be written for what is in hand: a packet, a slot that is given back, an interrupt word, which
-- is 1, or zeros
abbrev pub bytes_wanted : {K : Type 0} → Port K → Task → List ℕ
bytes_wanted p (tasks.Packet slot) = packet_out p p.outgoing
bytes_wanted p (tasks.Return side slot) = little_bytes 4 (given_back slot.word)
bytes_wanted p (tasks.Word side) = little_bytes 2 1
bytes_wanted p (tasks.Clear done) = zeros_out p done p.rings
bytes_wanted p task = []

-- what is wanted for the rings, if the host has named them; and else nothing for a while
abbrev pub InRings : {K : Type 0} → Port K → Action → (Rings → Type 0) → Type 0
InRings p action wanted = MatchOption p.rings (action ≡ actions.Pause) wanted

-- what is wanted for each thing that is in hand: the header of a packet stands in the four bytes in front of its text,
-- the slot in front of the one that was given back is two behind the next one, and interrupt words are written with 1
abbrev pub IsWanted : {K : Type 0} → Port K → Task → Action → Type 0
IsWanted p tasks.Free action = action ≡ actions.Rest
IsWanted p tasks.Settle action = action ≡ actions.Pause
IsWanted p (tasks.Step block) action = action ≡ actions.Pause
IsWanted p tasks.Interrupt action = action ≡ actions.Interrupt (vector_of p)
IsWanted p (tasks.Slot side) action =
    InRings p action (λ r. action ≡ actions.Read (slot_in r side (given_in p side)) 4)
IsWanted p (tasks.Header slot) action = action ≡ actions.Read (text_of slot.word - 4) 4
IsWanted p (tasks.Text slot size foreign) action = action ≡ actions.Read (text_of slot.word) size
IsWanted p (tasks.Packet slot) action =
    action ≡ actions.Write (text_of slot.word - 4) (length (packet_out p p.outgoing))
IsWanted p (tasks.Return side slot) action =
    InRings p action (λ r. action ≡ actions.Write (slot_in r side (given_in p side)) 4)
IsWanted p (tasks.Neighbour side) action =
    InRings p action (λ r. action ≡ actions.Read (slot_in r side (given_in p side + 2 * slots_of r side - 2)) 4)
IsWanted p (tasks.Word side) action = InRings p action (λ r. action ≡ actions.Write (word_of r side) 2)
IsWanted p (tasks.Clear done) action =
    InRings p action (λ r. action ≡ actions.Write (clear_from p r done) (clear_count p r done))
IsWanted p tasks.Transfer action = action ≡ move_wanted p (block_begun p)

-- the block that is taken in hand is to be moved by this action
pub record IsMovedFor {K : Type 0} (p : Port K) (task : Task) (action : Action) : Type 0 where
  pub taken : task ≡ tasks.Transfer
  pub wanted : action ≡ move_wanted p (block_begun p)
  pub within : IsWithin p action
  pub moves : (kind : MoveKind) (unit block address count : ℕ)
      → action ≡ actions.Transfer kind unit block address count → MayMoveOn kind unit block p
