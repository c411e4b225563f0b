-- What a port wants next of its host's memory: just what is due by what was done there, and a host is interrupted just
-- where that is due (port: UQSSP, "Ring Transitions", "Initialization").
use Rattle.std.specs.Prelude.{◌≡◌, ◌⊎◌, ◌+◌, ◌-◌, ◌*◌, ◌%◌, ℕ, Bool, nat_lt, if◌then◌else◌, List, ◌∷◌, length, replicate, IsSomeAnd, Option}
use Rattle.byteorder.specs.Endian.{little_bytes}
use Rattle.mscp_controller.specs.Holdings.{Holdings}
use Rattle.mscp_port.specs.declared.action.Action.{Action}
use Rattle.mscp_port.specs.declared.action.Action.TheVariants as actions
use Rattle.mscp_port.specs.declared.hardware.Hardware.{Hardware}
use Rattle.mscp_port.specs.declared.port.Port.{Port}
use Rattle.mscp_port.specs.declared.rings.Side.{Side}
use Rattle.mscp_port.specs.declared.rings.Side.TheVariants.{Responses, Commands}
use Rattle.mscp_port.specs.declared.stage.Stage.{Stage}
use Rattle.mscp_port.specs.declared.stage.Stage.TheVariants as stages
use Rattle.mscp_port.specs.Areas.{Rings, IsInArea}
use Rattle.mscp_port.specs.Calls.{IsMadeOf}
use Rattle.mscp_port.specs.Histories.{Answered, Call, Next, Picking}
use Rattle.mscp_ported.specs.Talk.{AsksAlways, Talk, Turn, Idle, Taken, Opened, Read, Written, Looks, Marks, Due, Slot, address_in, given, talk_of}
use Rattle.mscp_ported.specs.Rings.{slot_place, slots_in, text_place, word_place}

-- four bytes are read in the slot of a ring that comes next, while the rings are in use
abbrev pub ReadsSlot : Stage → Talk → ℕ → ℕ → Type 0
ReadsSlot stage t address count =
    (stage ≡ stages.Up) × (count ≡ 4) × ((side : Side) × (address ≡ address_in t.rings side (given t side)))

-- zeros are written into the communication area, while that is cleared
abbrev pub ClearsArea : Stage → Talk → ℕ → ℕ → List ℕ → Type 0
ClearsArea stage t address count bytes = (stage ≡ stages.Clearing) × (bytes ≡ replicate count 0)
    × IsSomeAnd t.rings (λ r. IsInArea r address count)

-- nothing is due: no more is wanted of the rings, and nobody is interrupted
abbrev pub IsCalm : Stage → Talk → Action → List ℕ → Type 0
IsCalm stage t (actions.Read address count) bytes = ReadsSlot stage t address count
IsCalm stage t (actions.Write address count) bytes = ClearsArea stage t address count bytes
IsCalm stage t (actions.Interrupt vector) bytes = ⊥
IsCalm stage t action bytes = Unit {0}

-- a slot that was given back is the host's, and its flag is set
abbrev pub host_word : ℕ → ℕ
host_word word = word % 0x4000_0000 + 0x4000_0000

-- the slot is given back, where it lies
abbrev pub GivesBack : Slot → Action → List ℕ → Type 0
GivesBack slot action bytes =
    (action ≡ actions.Write slot.address 4) × (bytes ≡ little_bytes 4 (host_word slot.word))

-- of a slot for a response a packet is written, whose header stands in the four bytes in front of its text; of one of a
-- command the header is read
abbrev pub Opens : Side → ℕ → Action → List ℕ → Type 0
Opens Responses word action bytes = action ≡ actions.Write (text_place word - 4) (length bytes)
Opens Commands word action bytes = action ≡ actions.Read (text_place word - 4) 4

-- no more of a text than 64 bytes is read
abbrev pub text_size : ℕ → ℕ
text_size header = if nat_lt 64 (header % 0x1_0000) then 64 else header % 0x1_0000

-- the slot in front of the one that was given back last is two behind the next one, over the ring's seam
abbrev pub IsLook : Option Rings → Talk → Side → Action → Type 0
IsLook rings t side action = IsSomeAnd rings (λ r.
    action ≡ actions.Read (slot_place r side (given t side + 2 * slots_in r side - 2)) 4)

-- what is wanted where so much was done
abbrev pub IsOwed : Stage → Talk → Turn → Action → List ℕ → Type 0
IsOwed stage t Idle action bytes = IsCalm stage t action bytes
IsOwed stage t (Taken slot) action bytes = Opens slot.side slot.word action bytes
IsOwed stage t (Opened slot header) action bytes = action ≡ actions.Read (text_place slot.word) (text_size header)
-- a command whose text was read may stay in its slot
IsOwed stage t (Read slot header text) action bytes =
    GivesBack slot action bytes ⊎ IsCalm stage t action bytes
IsOwed stage t (Written slot address packet) action bytes = GivesBack slot action bytes
IsOwed stage t (Looks side) action bytes = IsLook t.rings t side action
IsOwed stage t (Marks side) action bytes =
    IsSomeAnd t.rings (λ r. action ≡ actions.Write (word_place r side) 2) × (bytes ≡ little_bytes 2 1)
IsOwed stage t Due action bytes = action ≡ actions.Interrupt (t.first % 0x80 * 4)

-- the law of rings: whoever calls a port that was made over a controller, and tells of actions only after they were
-- wanted: what is wanted next is what is due by what was read and written since all was forgotten last
abbrev pub PortsDoWhatIsDue : {K : Type 0} → Picking K → Type 0
PortsDoWhatIsDue {K} picks =
    (hardware : Hardware) (credits : ℕ) (controller : Holdings K) (start p : Port K) (calls : List Call)
    (blocks : Bool) (action : Action) (bytes : List ℕ) → IsMadeOf hardware credits controller start
    → AsksAlways calls → (a : Answered picks start (Next blocks action bytes ∷ calls) p)
    → IsOwed p.stage (talk_of picks start a.0 calls a.1) (talk_of picks start a.0 calls a.1).turn action bytes
