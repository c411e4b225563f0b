-- What goes out of a port over a whole history: each message once, in the order in which they began to, and the credits
-- that are told with them.
use Rattle.std.specs.Prelude.{◌≡◌, ◌⊎◌, ◌+◌, ◌++◌, ◌∷◌, [], ℕ, if◌then◌else◌, List, option_to_list, Option, None, Some, Ok}
use Rattle.mscp_controller.specs.Holdings.{Holdings}
use Rattle.mscp_port.specs.declared.hardware.Hardware.{Hardware}
use Rattle.mscp_port.specs.declared.port.Outgoing.{Outgoing}
use Rattle.mscp_port.specs.declared.port.Port.{Port}
use Rattle.mscp_port.specs.declared.rings.Side.TheVariants.{Responses}
use Rattle.mscp_port.specs.declared.slot.Descriptor.{Descriptor}
use Rattle.mscp_port.specs.declared.stage.Stage.{Stage}
use Rattle.mscp_port.specs.declared.task.Task.TheVariants as tasks
use Rattle.mscp_port.specs.declared.action.Outcome.TheVariants as outcomes
use Rattle.mscp_port.specs.Calls.{HoldsPacket, IsMadeOf}
use Rattle.mscp_port.specs.Histories.{Answered, Picking, Call, Went}
use Rattle.mscp_ported.specs.Named.{NamesPacket, reads}
use Rattle.mscp_port.specs.Packets.{credits_by, is_disk_end}
use Rattle.mscp_port.specs.Ports.{IsAsNew}

-- by a call a message begins to go out, where nothing did
abbrev pub begins : Option Outgoing → Option Outgoing → List Outgoing
begins None (Some o) = o ∷ []
begins before after = []

-- or what went out is gone
abbrev pub leaves : Option Outgoing → Option Outgoing → List Outgoing
leaves (Some o) None = o ∷ []
leaves before after = []

-- what began to go out by each call of a history, the first one first
abbrev pub begun : {K : Type 0} (picks : Picking K) (start p : Port K) (calls : List Call)
    → Answered picks start calls p → List Outgoing
begun picks start p [] a = []
begun picks start p (call ∷ earlier) a = begun picks start a.0 earlier a.1 ++ begins a.0.outgoing p.outgoing

-- and what is gone
abbrev pub gone : {K : Type 0} (picks : Picking K) (start p : Port K) (calls : List Call)
    → Answered picks start calls p → List Outgoing
gone picks start p [] a = []
gone picks start p (call ∷ earlier) a = gone picks start a.0 earlier a.1 ++ leaves a.0.outgoing p.outgoing

-- all that the host has said was forgotten, and with it what went out
abbrev pub IsForgotten : {K : Type 0} → Port K → Port K → Type 0
IsForgotten old new = (s : Stage) × IsAsNew s old new

-- a slot of the ring of responses was given back, whose descriptor the host had made the port's since it wrote IP
abbrev pub IsDelivered : {K : Type 0} → List Call → Port K → Type 0
IsDelivered calls old =
    (slot : Descriptor) × (old.task ≡ tasks.Return Responses slot) × NamesPacket (reads calls) slot.word

-- the law of order: whoever calls a port that was made over a controller, what began to go out is just what is gone, in
-- the same order, and behind it what still goes out. So none is left out, told twice, or passed by another
abbrev pub PortsSpeakInOrder : {K : Type 0} → Picking K → Type 0
PortsSpeakInOrder {K} picks =
    (hardware : Hardware) (credits : ℕ) (controller : Holdings K) (start p : Port K) (calls : List Call)
    → IsMadeOf hardware credits controller start → (a : Answered picks start calls p)
    → begun picks start p calls a ≡ gone picks start p calls a ++ option_to_list p.outgoing

-- the law of slots: what went out is gone only once its slot was given back, which was the port's; or the host reset
-- the port, or a fatal error came
abbrev pub PortsFillTheirSlots : {K : Type 0} → Picking K → Type 0
PortsFillTheirSlots {K} picks =
    (hardware : Hardware) (credits : ℕ) (controller : Holdings K) (start p : Port K) (call : Call) (calls : List Call)
    (o : Outgoing) → IsMadeOf hardware credits controller start → (a : Answered picks start (call ∷ calls) p)
    → a.0.outgoing ≡ Some o → p.outgoing ≡ None → IsForgotten a.0 p ⊎ IsDelivered calls a.0

-- ---- credits

-- by a call it is told that the packet in hand was written
abbrev pub IsWritten : {K : Type 0} → Call → Port K → Type 0
IsWritten (Went outcomes.Done (Ok done)) old = HoldsPacket old.task
IsWritten call old = ⊥

-- how many ends of the disk's stand in it
abbrev pub ends_in : Option Outgoing → ℕ
ends_in None = 0
ends_in (Some o) = if is_disk_end o.kind then 1 else 0

-- and how many credits of the disk's are told with it
abbrev pub disk_credits : ℕ → Option Outgoing → ℕ
disk_credits untold None = 0
disk_credits untold (Some o) = if is_disk_end o.kind then credits_by untold o.kind else 0

-- in the packets that were written since all was forgotten last, so many credits of the disk's were told, and so many
-- of its ends
abbrev pub Told : {K : Type 0} (picks : Picking K) (start p : Port K) (calls : List Call)
    → Answered picks start calls p → ℕ → ℕ → Type 0
Told picks start p [] a credits ends = (credits ≡ 0) × (ends ≡ 0)
Told picks start p (call ∷ earlier) a credits ends =
    (IsForgotten a.0 p × (credits ≡ 0) × (ends ≡ 0))
    ⊎ (IsWritten call a.0 × (before : ℕ) × (ended : ℕ) × Told picks start a.0 earlier a.1 before ended
    × (credits ≡ before + disk_credits a.0.untold a.0.outgoing) × (ends ≡ ended + ends_in a.0.outgoing))
    ⊎ ((IsForgotten a.0 p ⊎ IsWritten call a.0 → ⊥) × Told picks start a.0 earlier a.1 credits ends)

-- what the host was told of the disk's credits, and what it wasn't told yet, are all that it may have outstanding but
-- one, and one for each end of the disk's that it got
abbrev pub PortsTellTheirCredits : {K : Type 0} → Picking K → Type 0
PortsTellTheirCredits {K} picks =
    (hardware : Hardware) (credits : ℕ) (controller : Holdings K) (start p : Port K) (calls : List Call)
    (told ends : ℕ) → IsMadeOf hardware credits controller start → (a : Answered picks start calls p)
    → Told picks start p calls a told ends → told + p.untold + 1 ≡ credits + ends
