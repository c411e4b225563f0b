-- What a host has named by the calls of its port, and that nothing else is touched.
use Rattle.std.specs.Prelude.{◌≡◌, ◌≢◌, ◌<◌, ◌⊎◌, ◌++◌, ℕ, Bool, true, List, [], ◌∷◌, length, Contains, Ok, Err, Some}
use Rattle.mscp_packet.specs.Number.{num}
use Rattle.mscp_port.specs.declared.action.Action.{Action}
use Rattle.mscp_port.specs.declared.action.Action.TheVariants as actions
use Rattle.mscp_port.specs.declared.buffers.Buffer.{Buffer}
use Rattle.mscp_drive.specs.declared.connection.Connection.TheVariants.{First}
use Rattle.mscp_controller.specs.declared.entry.SendFault.TheVariants.{NoCredit, LastCredit}
use Rattle.mscp_controller.specs.Holdings.{Holdings, answer_to_message, balance_of, outstanding_of}
use Rattle.mscp_port.specs.declared.hardware.Hardware.{Hardware}
use Rattle.mscp_port.specs.declared.port.Port.{Port}
use Rattle.mscp_port.specs.Areas.{Rings, IsInArea, rings_named}
use Rattle.mscp_port.specs.Buffers.{buffer_in, IsInBuffer}
use Rattle.mscp_port.specs.Calls.{IsMadeOf}
use Rattle.mscp_port.specs.Ports.{IsInPacket}
use Rattle.mscp_port.specs.Slots.{is_owned}
use Rattle.mscp_port.specs.Histories.{Call, Picking, Answered, Next, WasRead, WriteIp, WriteSa}

-- ---- what the host has said since it wrote IP

-- the words that it wrote to SA, the last one first
abbrev pub words : List Call → List ℕ
words [] = []
words (WriteIp ∷ earlier) = []
words (WriteSa word ∷ earlier) = word ∷ words earlier
words (call ∷ earlier) = words earlier

-- the bytes that were read of its memory where the port wanted some, the last ones first
abbrev pub reads : List Call → List (List ℕ)
reads [] = []
reads (WriteIp ∷ earlier) = []
reads (WasRead bytes (Ok done) ∷ earlier) = bytes ∷ reads earlier
reads (call ∷ earlier) = reads earlier

-- these numbers stand in the list in this order, with or without others between them
abbrev pub HasInOrder : List ℕ → List ℕ → Type 0
HasInOrder [] ys = Unit {0}
HasInOrder (x ∷ xs) ys = (before : List ℕ) × (behind : List ℕ) × (ys ≡ before ++ x ∷ behind) × HasInOrder xs behind

-- the host has named this communication area: it wrote three words, one after the other
abbrev pub NamesArea : List ℕ → Rings → Type 0
NamesArea written r = (first : ℕ) × (second : ℕ) × (third : ℕ) × HasInOrder (third ∷ second ∷ first ∷ []) written
    × (rings_named first second third ≡ Some r)

-- it has put this descriptor into its memory, with the bit set that makes the slot the port's
abbrev pub NamesPacket : List (List ℕ) → ℕ → Type 0
NamesPacket read word = (bytes : List ℕ) × Contains read bytes × (word ≡ num bytes 0 4) × (is_owned word ≡ true)

-- it has put a command with this buffer into its memory
abbrev pub NamesBuffer : List (List ℕ) → Buffer → Type 0
NamesBuffer read b = (bytes : List ℕ) × (changes : ℕ) × Contains read bytes × (b ≡ buffer_in bytes changes)

-- ---- what may be touched

-- so many bytes from an address on lie in a communication area or in a packet that it has named
abbrev pub IsNamedForRings : List Call → ℕ → ℕ → Type 0
IsNamedForRings calls address count =
    ((r : Rings) × NamesArea (words calls) r × IsInArea r address count)
    ⊎ ((word : ℕ) × NamesPacket (reads calls) word × IsInPacket word address count)

-- so many bytes from an address on lie in a buffer that it has named
abbrev pub IsNamedForData : List Call → ℕ → ℕ → Type 0
IsNamedForData calls address count = (b : Buffer) × NamesBuffer (reads calls) b × IsInBuffer b address count

-- the host has named all memory that an action touches
abbrev pub IsNamed : List Call → Action → Type 0
IsNamed calls (actions.Read address count) = IsNamedForRings calls address count
IsNamed calls (actions.Write address count) = IsNamedForRings calls address count
IsNamed calls (actions.Transfer kind unit block address count) = IsNamedForData calls address count
IsNamed calls action = Unit {0}

-- ---- laws

-- the law of ports: whoever calls a port that was made over a controller, and whatever the host writes, the port wants
-- only memory touched that the host has named since it wrote IP last
abbrev pub PortsTouchWhatIsNamed : {K : Type 0} → Picking K → Type 0
PortsTouchWhatIsNamed {K} picks =
    (hardware : Hardware) (credits : ℕ) (controller : Holdings K) (start p : Port K) (calls : List Call)
    (blocks : Bool) (action : Action) (bytes : List ℕ) → IsMadeOf hardware credits controller start
    → Answered picks start (Next blocks action bytes ∷ calls) p → IsNamed calls action

-- no message with these bytes is refused for want of a credit
pub record HasCredit {K : Type 0} (h : Holdings K) (bytes : List ℕ) : Type 0 where
  pub some : answer_to_message First h bytes ≢ Err NoCredit
  pub last : answer_to_message First h bytes ≢ Err LastCredit

-- the law of credits: a port was made for a host that may have so many commands outstanding. Whoever calls it, where
-- the controller has fewer of them that wait or whose ends weren't taken, no message is refused for want of a credit
abbrev pub PortsHaveCredit : {K : Type 0} → Picking K → Type 0
PortsHaveCredit {K} picks =
    (hardware : Hardware) (credits : ℕ) (controller : Holdings K) (start p : Port K) (calls : List Call)
    (bytes : List ℕ)
    → IsMadeOf hardware credits controller start → credits < balance_of First controller → Answered picks start calls p
    → length (outstanding_of First p.controller) < credits → HasCredit p.controller bytes
