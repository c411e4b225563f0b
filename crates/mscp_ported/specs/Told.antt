-- What a host was told, and what was heard of it: in order, each once, in the slots of its rings (port: UQSSP,
-- "Envelope Header", "Ring Entries").
use Rattle.std.specs.Prelude.{◌≡◌, ◌⊎◌, ◌+◌, ◌-◌, ◌++◌, ℕ, Bool, true, false, if◌then◌else◌, List, [], ◌∷◌, length, map, min, Option, None, Some, Result, Ok, Err, option_to_list}
use Rattle.byteorder.specs.Endian.{little_bytes}
use Rattle.mscp_packet.specs.declared.end.End.{End}
use Rattle.mscp_controller.specs.Holdings.{Holdings}
use Rattle.mscp_controller.specs.declared.entry.SendFault.{SendFault}
use Rattle.mscp_controller.specs.declared.entry.Sent.{Sent}
use Rattle.mscp_port.specs.declared.hardware.Hardware.{Hardware}
use Rattle.mscp_port.specs.declared.port.Outgoing.{Outgoing}
use Rattle.mscp_port.specs.declared.port.OutgoingKind.{OutgoingKind}
use Rattle.mscp_port.specs.declared.port.OutgoingKind.TheVariants as kinds
use Rattle.mscp_port.specs.declared.port.Port.{Port}
use Rattle.mscp_port.specs.declared.rings.Side.{Side}
use Rattle.mscp_port.specs.declared.rings.Side.TheVariants.{Responses, Commands}
use Rattle.mscp_port.specs.declared.task.Task.{Task}
use Rattle.mscp_port.specs.declared.task.Task.TheVariants as tasks
use Rattle.mscp_port.specs.Areas.{Rings}
use Rattle.mscp_port.specs.Calls.{IsMadeOf}
use Rattle.mscp_ported.specs.Departures.{begins}
use Rattle.mscp_port.specs.Histories.{Answered, Call, Picking, WasRead}
use Rattle.mscp_port.specs.Messages.{own_end_of}
use Rattle.mscp_port.specs.Seen.{answered_to}
use Rattle.mscp_ported.specs.Talk.{AsksAlways, Message, Opened, Packet, Read, Slot, Turn, address_in, since, talk_of}
use Rattle.mscp_ported.specs.Rings.{is_ports, text_place}

-- ---- slots

-- these slots were the port's, and lie in a ring one behind the other, from one on that comes after so many others
abbrev pub StandInOrder : Option Rings → Side → ℕ → List Slot → Type 0
StandInOrder rings side n [] = Unit {0}
StandInOrder rings side n (slot ∷ more) = (slot.side ≡ side) × (slot.address ≡ address_in rings side n)
    × (is_ports slot.word ≡ true) × StandInOrder rings side (n + 1) more

abbrev pub packet_slot : Packet → Slot
packet_slot packet = packet.slot

abbrev pub message_slot : Message → Slot
message_slot message = message.slot

-- ---- packets

-- the length of the text, credits with a type of 0, a connection, and the text
abbrev pub packet_with : ℕ → ℕ → List ℕ → List ℕ
packet_with credits connection text = little_bytes 2 (length text) ++ (credits ∷ connection ∷ []) ++ text

-- what is told: an end of the disk's, one for the diagnostic and utilities protocol, or an attention message
pub record Said : Type 0 where
  pub kind : OutgoingKind
  pub text : List ℕ

abbrev pub said_in : Outgoing → Said
said_in o = record { kind = o.kind; text = o.bytes.items }

-- the utilities' connection is 2, and the disk's 0
abbrev pub connection_told : OutgoingKind → ℕ
connection_told kinds.Attention = 0
connection_told kinds.End = 0
connection_told kinds.UtilitiesEnd = 2

-- where so many credits of the disk's weren't told yet: an end gives back the credit of its command, and one of the
-- disk's tells up to 14 more
abbrev pub credits_in : ℕ → OutgoingKind → ℕ
credits_in left kinds.Attention = 0
credits_in left kinds.End = 1 + min left 14
credits_in left kinds.UtilitiesEnd = 1

abbrev pub left_after : ℕ → OutgoingKind → ℕ
left_after left kinds.Attention = left
left_after left kinds.End = left - min left 14
left_after left kinds.UtilitiesEnd = left

-- a packet says this: it stands where its slot's descriptor says, whole
abbrev pub Tells : ℕ → Packet → Said → Type 0
Tells left packet said = (packet.address ≡ text_place packet.slot.word - 4)
    × (packet.bytes ≡ packet_with (credits_in left said.kind) (connection_told said.kind) said.text)

-- packets say these, one by one, where so many credits weren't told before the first of them
abbrev pub TellAll : ℕ → List Packet → List Said → Type 0
TellAll left [] [] = Unit {0}
TellAll left (packet ∷ packets) (said ∷ more) = Tells left packet said
    × TellAll (left_after left said.kind) packets more
TellAll left packets said = ⊥

-- ---- what is said

-- what began to go out since all was forgotten last, the first one first
abbrev pub said : {K : Type 0} (picks : Picking K) (start p : Port K) (calls : List Call)
    → Answered picks start calls p → List Said
said picks start p [] a = []
said picks start p (call ∷ earlier) a =
    since p.stage call (said picks start a.0 earlier a.1) (map said_in (begins a.0.outgoing p.outgoing))

-- what goes out, and isn't told yet
abbrev pub held : {K : Type 0} → Port K → List Said
held p = map said_in (option_to_list p.outgoing)

-- the law of what is told: whoever calls a port that was made over a controller, and tells of actions only after they
-- were wanted: since all was forgotten last, the packets whose slots were given back say what was said, one by one, in
-- the same order, but for what is held; and tell all credits that a host may have but the one that it begins with, up
-- to 15 each. Their slots were the port's, and lie in the ring one behind the other
abbrev pub PortsTellInOrder : {K : Type 0} → Picking K → Type 0
PortsTellInOrder {K} picks =
    (hardware : Hardware) (credits : ℕ) (controller : Holdings K) (start p : Port K) (calls : List Call)
    → IsMadeOf hardware credits controller start → AsksAlways calls → (a : Answered picks start calls p)
    → ((gone : List Said) × (gone ++ held p ≡ said picks start p calls a)
    × TellAll (credits - 1) (talk_of picks start p calls a).told gone)
    × StandInOrder (talk_of picks start p calls a).rings Responses 0
    (map packet_slot (talk_of picks start p calls a).told)

-- ---- what is heard

-- a message is accepted: the port answers it itself, if nothing goes out; or the controller does
abbrev pub accepts : Option End → Option Outgoing → Result Sent SendFault → Bool
accepts (Some e) None answer = true
accepts (Some e) (Some o) answer = false
accepts None o (Ok sent) = true
accepts None o (Err fault) = false

abbrev pub accepted_text : {K : Type 0} → Port K → Task → List ℕ → List (List ℕ)
accepted_text p (tasks.Text slot size foreign) text =
    if accepts (own_end_of p foreign text) p.outgoing (answered_to p text) then text ∷ [] else []
accepted_text p task text = []

-- the texts that were accepted by a call
abbrev pub accepted_by : {K : Type 0} → Call → Port K → List (List ℕ)
accepted_by (WasRead bytes (Ok done)) old = accepted_text old old.task bytes
accepted_by call old = []

-- and since all was forgotten last, the first one first
abbrev pub accepted : {K : Type 0} (picks : Picking K) (start p : Port K) (calls : List Call)
    → Answered picks start calls p → List (List ℕ)
accepted picks start p [] a = []
accepted picks start p (call ∷ earlier) a =
    since p.stage call (accepted picks start a.0 earlier a.1) (accepted_by call a.0)

abbrev pub message_text : Message → List ℕ
message_text message = message.text

-- these texts were accepted: those of the messages whose slots were given back, and maybe one more, whose slot is not
abbrev pub AreAccepted : List Message → Turn → List (List ℕ) → Type 0
AreAccepted heard turn texts = (texts ≡ map message_text heard)
    ⊎ ((slot : Slot) × (header : ℕ) × (text : List ℕ) × (turn ≡ Read slot header text)
    × (texts ≡ map message_text heard ++ text ∷ []))

-- the law of what is heard: whoever calls such a port, and tells of actions only after they were wanted: since all was
-- forgotten last, just the messages that were accepted had their slots given back, one by one, in the same order, but
-- for one that is in hand. Their slots were the port's, and lie in the ring one behind the other, so that none is heard
-- before one in front of it, and none twice
abbrev pub PortsHearInOrder : {K : Type 0} → Picking K → Type 0
PortsHearInOrder {K} picks =
    (hardware : Hardware) (credits : ℕ) (controller : Holdings K) (start p : Port K) (calls : List Call)
    → IsMadeOf hardware credits controller start → AsksAlways calls → (a : Answered picks start calls p)
    → AreAccepted (talk_of picks start p calls a).heard (talk_of picks start p calls a).turn
    (accepted picks start p calls a)
    × StandInOrder (talk_of picks start p calls a).rings Commands 0
    (map message_slot (talk_of picks start p calls a).heard)

-- the law of headers: of such a port: where a text is accepted, the header in front of it was read
abbrev pub PortsOpenWhatTheyAccept : {K : Type 0} → Picking K → Type 0
PortsOpenWhatTheyAccept {K} picks =
    (hardware : Hardware) (credits : ℕ) (controller : Holdings K) (start p : Port K) (calls : List Call)
    (bytes : List ℕ) (done : Unit) (text : List ℕ) (more : List (List ℕ))
    → IsMadeOf hardware credits controller start → AsksAlways (WasRead bytes (Ok done) ∷ calls)
    → (a : Answered picks start (WasRead bytes (Ok done) ∷ calls) p)
    → accepted_by (WasRead bytes (Ok done)) a.0 ≡ text ∷ more
    → (slot : Slot) × (header : ℕ) × ((talk_of picks start a.0 calls a.1).turn ≡ Opened slot header)
