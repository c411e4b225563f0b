-- What was done in a host's memory since its port forgot all that it had said, as the port's calls tell it (port:
-- UQSSP, "Communication Area", "Ring Entries", "Initialization").
use Rattle.std.specs.Prelude.{◌≢◌, ◌+◌, ◌*◌, ◌%◌, ◌/◌, ◌==◌, ◌++◌, ℕ, Bool, true, false, not, nat_lt, if◌then◌else◌, List, [], ◌∷◌, length, Option, None, Some, Ok}
use Rattle.mscp_packet.specs.Number.{num}
use Rattle.mscp_port.specs.declared.action.Action.{Action}
use Rattle.mscp_port.specs.declared.action.Action.TheVariants as actions
use Rattle.mscp_port.specs.declared.port.Port.{Port}
use Rattle.mscp_port.specs.declared.rings.Side.{Side}
use Rattle.mscp_port.specs.declared.rings.Side.TheVariants.{Responses, Commands}
use Rattle.mscp_port.specs.declared.stage.Stage.{Stage}
use Rattle.mscp_port.specs.declared.stage.Stage.TheVariants as stages
use Rattle.mscp_port.specs.Areas.{Rings}
use Rattle.mscp_port.specs.Histories.{Answered, Call, Next, Picking, WasRead, Went, WriteIp, WriteSa}
use Rattle.mscp_ported.specs.Rings.{area_by, is_marked, is_ports, slot_place, slots_in}

-- ---- what was asked

-- an action that was wanted, and the bytes that it writes
pub record Wish : Type 0 where
  pub action : Action
  pub bytes : List ℕ

-- what was wanted last and wasn't told of yet
abbrev pub wish : List Call → Option Wish
wish [] = None
wish (WriteIp ∷ earlier) = None
wish (Next blocks action bytes ∷ earlier) = Some (record { action = action; bytes = bytes })
wish (WasRead bytes (Ok done) ∷ earlier) = None
wish (Went outcome (Ok done) ∷ earlier) = None
wish (call ∷ earlier) = wish earlier

-- who calls tells of an action only after it was wanted
abbrev pub AsksAlways : List Call → Type 0
AsksAlways [] = Unit {0}
AsksAlways (WasRead bytes (Ok done) ∷ earlier) = (wish earlier ≢ None) × AsksAlways earlier
AsksAlways (Went outcome (Ok done) ∷ earlier) = (wish earlier ≢ None) × AsksAlways earlier
AsksAlways (call ∷ earlier) = AsksAlways earlier

-- ---- what was done

-- a slot of a ring: where it lies, and what stood in it as it was read
pub record Slot : Type 0 where
  pub side : Side
  pub address : ℕ
  pub word : ℕ

-- how far the port is with a slot
pub data Turn : Type 0 where
  -- with none: what it reads next is a slot
  Idle : Turn
  -- it has read the slot, which is its own
  Taken : Slot → Turn
  -- and the header of the packet there
  Opened : Slot → ℕ → Turn
  -- and the text of that: the slot is given back, unless the command stays in it
  Read : Slot → ℕ → List ℕ → Turn
  -- or it has written a packet, from this address on: the slot is given back
  Written : Slot → ℕ → List ℕ → Turn
  -- the slot was given back, and by the one in front is seen whether the host is to hear of it
  Looks : Side → Turn
  -- the host is to hear of it: the ring's interrupt word is to be written
  Marks : Side → Turn
  -- and the host to be interrupted
  Due : Turn

-- a packet whose slot was given back: from which address on it was written
pub record Packet : Type 0 where
  pub slot : Slot
  pub address : ℕ
  pub bytes : List ℕ

-- a message whose slot was given back: its packet's header, and its text
pub record Message : Type 0 where
  pub slot : Slot
  pub header : ℕ
  pub text : List ℕ

pub record Talk : Type 0 where
  -- the last word by which the host answered a step of the initialisation
  pub answer : ℕ
  -- its words of the first two steps, and the communication area that it named
  pub first : ℕ
  pub second : ℕ
  pub rings : Option Rings
  pub turn : Turn
  -- what it was told, and what was heard of it, the first one first
  pub told : List Packet
  pub heard : List Message

-- nothing was said so far
abbrev pub silence : Talk
silence = record { answer = 0; first = 0; second = 0; rings = None; turn = Idle; told = []; heard = [] }

-- ---- interrupts

-- the host wants to be interrupted, by the vector in its first word
abbrev pub interrupts : ℕ → Turn
interrupts first = if first % 0x80 * 4 == 0 then Idle else Due

-- bit 7 of that word asks for interrupts at the steps of the initialisation too
abbrev pub at_step : ℕ → Turn
at_step first = if first / 0x80 % 2 == 1 then interrupts first else Idle

abbrev pub interrupted : Turn → Turn
interrupted Due = Idle
interrupted turn = turn

abbrev pub is_single : Option Rings → Side → Bool
is_single None side = false
is_single (Some r) side = slots_in r side == 1

-- a slot was given back: the host wants to hear of it if its flag was set; and of one in a ring of one it does
abbrev pub given_turn : Option Rings → Slot → Turn
given_turn rings slot =
    if not (is_marked slot.word) then Idle
    else if is_single rings slot.side then Marks slot.side
    else Looks slot.side

-- ---- memory

-- the ring in which a slot of this address lies: that of responses stands in front
abbrev pub side_at : Option Rings → ℕ → Side
side_at None address = Responses
side_at (Some r) address = if nat_lt address (r.base + r.responses * 4) then Responses else Commands

-- a slot that is the port's is taken
abbrev pub takes : Slot → Turn
takes slot = if is_ports slot.word then Taken slot else Idle

abbrev pub slot_read : Option Rings → ℕ → List ℕ → Slot
slot_read rings address bytes =
    record { side = side_at rings address; address = address; word = num bytes 0 4 }

-- these bytes were read from this address on
abbrev pub read_turn : Option Rings → ℕ → List ℕ → Turn → Turn
read_turn rings address bytes Idle = takes (slot_read rings address bytes)
read_turn rings address bytes (Read slot header text) = takes (slot_read rings address bytes)
read_turn rings address bytes (Taken slot) = Opened slot (num bytes 0 4)
read_turn rings address bytes (Opened slot header) = Read slot header bytes
read_turn rings address bytes (Looks side) = if is_ports (num bytes 0 4) then Marks side else Idle
read_turn rings address bytes turn = turn

-- these were written
abbrev pub written : ℕ → List ℕ → Turn → Talk → Talk
written address bytes (Taken slot) t = record t { turn = Written slot address bytes }
written address bytes (Written slot place packet) t = record t {
  turn = given_turn t.rings slot;
  told = t.told ++ record { slot = slot; address = place; bytes = packet } ∷ [];
}
written address bytes (Read slot header text) t = record t {
  turn = given_turn t.rings slot;
  heard = t.heard ++ record { slot = slot; header = header; text = text } ∷ [];
}
written address bytes (Marks side) t = record t { turn = interrupts t.first }
written address bytes turn t = t

abbrev pub read_by : Action → List ℕ → Talk → Talk
read_by (actions.Read address count) bytes t = record t { turn = read_turn t.rings address bytes t.turn }
read_by action bytes t = t

abbrev pub done_by : Action → List ℕ → Talk → Talk
done_by (actions.Write address count) bytes t = written address bytes t.turn t
done_by (actions.Interrupt vector) bytes t = record t { turn = interrupted t.turn }
done_by action bytes t = t

-- what was wanted was read, or was done
abbrev pub after_read : Option Wish → List ℕ → Talk → Talk
after_read None bytes t = t
after_read (Some w) bytes t = read_by w.action bytes t

abbrev pub after_deed : Option Wish → Talk → Talk
after_deed None t = t
after_deed (Some w) t = done_by w.action w.bytes t

-- ---- registers

-- a word that was written to SA answers the step, the first one if its top bit is set
abbrev pub answered : Stage → ℕ → Talk → Talk
answered stages.First word t = if nat_lt word 0x8000 then t else record t { answer = word }
answered stages.Second word t = record t { answer = word }
answered stages.Third word t = record t { answer = word }
answered stage word t = t

-- a step of the initialisation is over, and the next one begins
abbrev pub stepped : Stage → Stage → Talk → Talk
stepped stages.First stages.Second t = record t { first = t.answer; turn = at_step t.answer }
stepped stages.Second stages.Third t = record t { second = t.answer; turn = at_step t.first }
stepped stages.Third stages.Purging t = record t { rings = area_by t.first t.second t.answer }
stepped stages.Third stages.Clearing t = record t { rings = area_by t.first t.second t.answer }
stepped stages.Clearing stages.Last t = record t { turn = at_step t.first }
stepped before after t = t

-- ---- calls

abbrev pub talk_by : Stage → Option Wish → Call → Talk → Talk
talk_by before w WriteIp t = silence
talk_by before w (WriteSa word) t = answered before word t
talk_by before w (WasRead bytes (Ok done)) t = after_read w bytes t
talk_by before w (Went outcome (Ok done)) t = after_deed w t
talk_by before w call t = t

abbrev pub is_dead : Stage → Bool
is_dead (stages.Dead code) = true
is_dead stage = false

-- behind a call by which a port came from one stage to another. A fatal error ends all talk
abbrev pub talk_after : Stage → Stage → Option Wish → Call → Talk → Talk
talk_after before after w call t =
    if is_dead after then silence else stepped before after (talk_by before w call t)

-- what was there since all was forgotten last, and this behind it
abbrev pub since : {X : Type 0} → Stage → Call → List X → List X → List X
since stage WriteIp earlier more = []
since stage call earlier more = if is_dead stage then [] else earlier ++ more

abbrev pub talk_of : {K : Type 0} (picks : Picking K) (start p : Port K) (calls : List Call)
    → Answered picks start calls p → Talk
talk_of picks start p [] a = silence
talk_of picks start p (call ∷ earlier) a =
    talk_after a.0.stage p.stage (wish earlier) call (talk_of picks start a.0 earlier a.1)

-- ---- rings

-- how many slots of a ring were given back
abbrev pub given : Talk → Side → ℕ
given t Responses = length t.told
given t Commands = length t.heard

-- where the slot of a ring lies that comes after so many others, if the host has named its rings
abbrev pub address_in : Option Rings → Side → ℕ → ℕ
address_in None side n = 0
address_in (Some r) side n = slot_place r side n
