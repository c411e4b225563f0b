-- Where in its memory a host has put what a port reads.
use Rattle.std.specs.Prelude.{◌≡◌, ◌≢◌, ◌⊎◌, ℕ, Bool, List, [], ◌∷◌, Contains, true, Ok, Option, None, Some}
use Rattle.mscp_packet.specs.Number.{num}
use Rattle.mscp_controller.specs.Holdings.{Holdings}
use Rattle.mscp_port.specs.declared.action.Action.{Action}
use Rattle.mscp_port.specs.declared.action.Action.TheVariants as actions
use Rattle.mscp_port.specs.declared.buffers.Buffer.{Buffer}
use Rattle.mscp_port.specs.declared.hardware.Hardware.{Hardware}
use Rattle.mscp_port.specs.declared.port.Port.{Port}
use Rattle.mscp_port.specs.declared.rings.Side.{Side}
use Rattle.mscp_port.specs.Areas.{Rings, IsInArea, slot_in}
use Rattle.mscp_port.specs.Buffers.{buffer_in, IsInBuffer}
use Rattle.mscp_port.specs.Calls.{IsMadeOf}
use Rattle.mscp_port.specs.Histories.{Answered, Picking, Call, Next, WasRead, Went, WriteIp}
use Rattle.mscp_ported.specs.Named.{NamesArea, words}
use Rattle.mscp_port.specs.Ports.{IsInPacket}
use Rattle.mscp_port.specs.Slots.{is_owned, text_of}

-- ---- what was asked and told

-- an action that is wanted and wasn't told of, if it is a read: from which address on
abbrev pub read_from : Action → Option ℕ
read_from (actions.Read address count) = Some address
read_from action = None

-- the read that was wanted last and wasn't told of yet: from which address on
abbrev pub asked : List Call → Option ℕ
asked [] = None
asked (WriteIp ∷ earlier) = None
asked (Next blocks action bytes ∷ earlier) = read_from action
asked (WasRead bytes (Ok done) ∷ earlier) = None
asked (Went outcome (Ok done) ∷ earlier) = None
asked (call ∷ earlier) = asked earlier

-- who calls tells of a read only after it was wanted
abbrev pub AsksFirst : List Call → Type 0
AsksFirst [] = Unit {0}
AsksFirst (WasRead bytes (Ok done) ∷ earlier) = (asked earlier ≢ None) × AsksFirst earlier
AsksFirst (call ∷ earlier) = AsksFirst earlier

abbrev pub with_read : Option ℕ → List ℕ → List (ℕ × List ℕ) → List (ℕ × List ℕ)
with_read None bytes rest = rest
with_read (Some address) bytes rest = (address, bytes) ∷ rest

-- what was read since the host wrote IP, from which address on, the last one first
abbrev pub reads_at : List Call → List (ℕ × List ℕ)
reads_at [] = []
reads_at (WriteIp ∷ earlier) = []
reads_at (WasRead bytes (Ok done) ∷ earlier) = with_read (asked earlier) bytes (reads_at earlier)
reads_at (call ∷ earlier) = reads_at earlier

-- ---- what the host has put there

-- it has put this descriptor into a slot of a ring that it named, with the bit set that makes the slot the port's
abbrev pub PutsPacket : List ℕ → List (ℕ × List ℕ) → ℕ → Type 0
PutsPacket written read word = (r : Rings) × (side : Side) × (number : ℕ) × (bytes : List ℕ) × NamesArea written r
    × Contains read (slot_in r side number, bytes) × (word ≡ num bytes 0 4) × (is_owned word ≡ true)

-- and a command with this buffer where such a descriptor says
abbrev pub PutsBuffer : List ℕ → List (ℕ × List ℕ) → Buffer → Type 0
PutsBuffer written read b = (word : ℕ) × (bytes : List ℕ) × (changes : ℕ) × PutsPacket written read word
    × Contains read (text_of word, bytes) × (b ≡ buffer_in bytes changes)

abbrev pub IsPutForRings : List Call → ℕ → ℕ → Type 0
IsPutForRings calls address count =
    ((r : Rings) × NamesArea (words calls) r × IsInArea r address count)
    ⊎ ((word : ℕ) × PutsPacket (words calls) (reads_at calls) word × IsInPacket word address count)

abbrev pub IsPutForData : List Call → ℕ → ℕ → Type 0
IsPutForData calls address count =
    (b : Buffer) × PutsBuffer (words calls) (reads_at calls) b × IsInBuffer b address count

-- the memory that an action touches is a communication area that the host named, a packet of a descriptor in one of its
-- slots, or a buffer of a command in such a packet
abbrev pub IsPut : List Call → Action → Type 0
IsPut calls (actions.Read address count) = IsPutForRings calls address count
IsPut calls (actions.Write address count) = IsPutForRings calls address count
IsPut calls (actions.Transfer kind unit block address count) = IsPutForData calls address count
IsPut calls action = Unit {0}

-- the law of places: whoever calls a port that was made over a controller, and tells of reads only after they were
-- wanted: the port wants only memory touched that the host has named in its memory since it wrote IP last
abbrev pub PortsTouchWhatWasPut : {K : Type 0} → Picking K → Type 0
PortsTouchWhatWasPut {K} picks =
    (hardware : Hardware) (credits : ℕ) (controller : Holdings K) (start p : Port K) (calls : List Call)
    (blocks : Bool) (action : Action) (bytes : List ℕ) → IsMadeOf hardware credits controller start → AsksFirst calls
    → Answered picks start (Next blocks action bytes ∷ calls) p → IsPut calls action
