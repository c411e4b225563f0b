-- What is done at a port and by its host, and how one gets what the other has said: the port reads the host's messages
-- in the order in which it sent them, and the host hears the port's packets in the order in which they were told (port:
-- UQSSP, "Ring Entries", "Envelope Header").
use Rattle.std.specs.Prelude.{◌≡◌, ◌<◌, ◌≤◌, ◌^◌, ◌++◌, ◌∷◌, [], ℕ, Bool, true, false, drop, filter, flat_map, length, slice_get, slice_index, List, Some, Ok}
use Rattle.mscp_packet.specs.Number.{num}
use Rattle.mscp_host.specs.declared.envelope.Envelope.{Envelope}
use Rattle.mscp_host.specs.declared.news.Poll.TheVariants as polls
use Rattle.mscp_host.specs.Messages.{envelope_in}
use Rattle.mscp_host.specs.PortHistories.{Ask, Hear, PortHistory, PortMoment, Submit}
use Rattle.mscp_port.specs.declared.port.Port.{Port}
use Rattle.mscp_port.specs.Histories.{Answered, Call, Picking, WasRead, WriteIp}
use Rattle.mscp_ported.specs.Answers.{is_for_utilities}
use Rattle.mscp_ported.specs.Awaited.{bytes_in}
use Rattle.mscp_ported.specs.Talk.{Opened, Packet, Talk, Turn, talk_of}

-- somebody called the port, or the host did something, and that was answered
pub data Deed : Type 0 where
  Called : Call → Deed
  Did : PortMoment → Deed

-- the calls of the port, the last one first, as the deeds are
abbrev pub calls_in : List Deed → List Call
calls_in [] = []
calls_in (Called call ∷ earlier) = call ∷ calls_in earlier
calls_in (Did m ∷ earlier) = calls_in earlier

-- what the host did since IP was written last, the first thing first: then it is a new host
abbrev pub did : List Deed → PortHistory
did [] = []
did (Called WriteIp ∷ earlier) = []
did (Called call ∷ earlier) = did earlier
did (Did m ∷ earlier) = did earlier ++ m ∷ []

-- ---- messages

-- the message that was sent, of a command or a poll
abbrev pub sent_by : PortMoment → List (List ℕ)
sent_by (Submit command (Ok message)) = message.items ∷ []
sent_by (Ask reference (Ok (polls.Ask message))) = message.items ∷ []
sent_by m = []

abbrev pub sent : PortHistory → List (List ℕ)
sent h = flat_map sent_by h

-- how a text in a host's memory has to be like the message whose text it is
abbrev pub Likeness : Type 1
Likeness = List ℕ → List ℕ → Type 0

-- as far as this goes: its reference number, whether it is a transfer, and how many bytes that asks for. The driver
-- writes the rest, as where its data are
pub record IsTextOf (text message : List ℕ) : Type 0 where
  pub number : num text 0 4 ≡ num message 0 4
  pub bytes : bytes_in text ≡ bytes_in message

-- or as far as this: its reference number, its opcode, and its first parameter: how many bytes a transfer asks for, or
-- the number of the command that a poll is about. And it has all bytes of the message
pub record IsCopyOf (text message : List ℕ) : Type 0 where
  pub number : num text 0 4 ≡ num message 0 4
  pub opcode : slice_index text 8 ≡ slice_index message 8
  pub parameter : num text 12 4 ≡ num message 12 4
  pub long : length message ≤ length text

-- where a text is read, it is that of the message behind so many others, for the disks
abbrev pub IsNextText : Likeness → Turn → ℕ → List (List ℕ) → List ℕ → Type 0
IsNextText Like (Opened slot header) n messages text = (is_for_utilities header ≡ false)
    × ((message : List ℕ) × (slice_get messages n ≡ Some message) × Like text message)
IsNextText Like turn n messages text = Unit {0}

-- behind those whose slots were given back
abbrev pub ReadsInOrder : Likeness → Call → Talk → List (List ℕ) → Type 0
ReadsInOrder Like (WasRead bytes (Ok done)) t messages = IsNextText Like t.turn (length t.heard) messages bytes
ReadsInOrder Like call t messages = Unit {0}

-- ---- packets

abbrev pub is_hearing : PortMoment → Bool
is_hearing (Hear v b answer) = true
is_hearing m = false

-- how often the host has heard something
abbrev pub hearings : PortHistory → ℕ
hearings h = length (filter is_hearing h)

-- this envelope and this text are those of a packet
pub record IsPacket (packet : Packet) (v : Envelope) (b : List ℕ) : Type 0 where
  pub envelope : v ≡ envelope_in packet.bytes
  pub text : b ≡ drop 4 packet.bytes

-- what the host hears is the packet behind so many others
abbrev pub HearsInOrder : PortMoment → Talk → ℕ → Type 0
HearsInOrder (Hear v b answer) t n = (packet : Packet) × (slice_get t.told n ≡ Some packet) × IsPacket packet v b
HearsInOrder m t n = Unit {0}

-- ---- both

abbrev pub AreJoined : {K : Type 0} (Like : Likeness) (picks : Picking K) (start p : Port K) (deeds : List Deed)
    → Answered picks start (calls_in deeds) p → Type 0
AreJoined Like picks start p [] a = Unit {0}
AreJoined Like picks start p (Called call ∷ earlier) a =
    ReadsInOrder Like call (talk_of picks start a.0 (calls_in earlier) a.1) (sent (did earlier))
    × AreJoined Like picks start a.0 earlier a.1
AreJoined Like picks start p (Did m ∷ earlier) a =
    HearsInOrder m (talk_of picks start p (calls_in earlier) a) (hearings (did earlier))
    × AreJoined Like picks start p earlier a

-- the numbers of what the host sends fit their type
abbrev pub HasNumber : PortMoment → Type 0
HasNumber (Submit command answer) = command.reference < 2 ^ 32
HasNumber (Ask reference answer) = reference < 2 ^ 32
HasNumber m = Unit {0}

abbrev pub HaveNumbers : List Deed → Type 0
HaveNumbers [] = Unit {0}
HaveNumbers (Called call ∷ earlier) = HaveNumbers earlier
HaveNumbers (Did m ∷ earlier) = HasNumber m × HaveNumbers earlier
