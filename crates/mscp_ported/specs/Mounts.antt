-- On which volume blocks are moved: on the one that was in the unit as the command came, and with which the unit was
-- brought online (manual, "Unit States", "ONLINE").
use Rattle.std.specs.Prelude.{◌≡◌, ◌⊎◌, ◌<◌, ◌+◌, ◌==◌, ℕ, Bool, if◌then◌else◌, List, [], ◌∷◌, Contains, Some, Result, Ok}
use Rattle.mscp_packet.specs.EndcodeBytes as endcodes
use Rattle.mscp_packet.specs.StatusCodes as codes
use Rattle.mscp_packet.specs.Statuses.{code_of}
use Rattle.mscp_packet.specs.declared.command.MoveKind.{MoveKind}
use Rattle.mscp_packet.specs.declared.end.End.{End}
use Rattle.mscp_drive.specs.UnitList.{IsUnitList}
use Rattle.mscp_drive.specs.declared.block.Block.TheVariants as blocks
use Rattle.mscp_drive.specs.declared.connection.Connection.{Connection}
use Rattle.mscp_queue.specs.declared.report.Report.{Report}
use Rattle.mscp_queue.specs.declared.upcoming.Upcoming.{Upcoming}
use Rattle.mscp_controller.specs.declared.entry.NotBegun.{NotBegun}
use Rattle.mscp_controller.specs.Calls.{Finish}
use Rattle.mscp_controller.specs.Holdings.{Holdings, begun_step}
use Rattle.mscp_port.specs.declared.action.Action.TheVariants as actions
use Rattle.mscp_port.specs.declared.action.Outcome.{Outcome}
use Rattle.mscp_port.specs.declared.buffers.Buffer.{Buffer}
use Rattle.mscp_port.specs.declared.hardware.Hardware.{Hardware}
use Rattle.mscp_port.specs.declared.port.Port.{Port}
use Rattle.mscp_port.specs.Calls.{IsMadeOf}
use Rattle.mscp_port.specs.Histories.{Answered, Call, Next, Picking, VolumeCame, VolumeWent, Went, WriteIp}
use Rattle.mscp_ported.specs.Kept.{IsSaidBy}
use Rattle.mscp_ported.specs.Ends.{come}
use Rattle.mscp_ported.specs.Making.{Makes}
use Rattle.mscp_ported.specs.Talk.{AsksAlways, wish}

-- ---- the volume that was there

-- how many volumes came into this unit, or went, by a call
abbrev pub changed_by : ℕ → Call → ℕ
changed_by unit (VolumeCame m to (Ok done)) = if to == unit then 1 else 0
changed_by unit (VolumeWent to (Ok done)) = if to == unit then 1 else 0
changed_by unit call = 0

-- and by a list of calls
abbrev pub changed : ℕ → List Call → ℕ
changed unit [] = 0
changed unit (call ∷ earlier) = changed_by unit call + changed unit earlier

-- a message of this number and to this unit was read, since which no volume came into the unit or went
abbrev pub IsOfItsVolume : {K : Type 0} (picks : Picking K) (number unit : ℕ) (start p : Port K) (calls : List Call)
    → Answered picks start calls p → Buffer → Type 0
IsOfItsVolume picks number unit start p [] a b = ⊥
IsOfItsVolume picks number unit start p (call ∷ earlier) a b =
    IsSaidBy number unit call a.0 b
    ⊎ ((changed_by unit call ≡ 0) × IsOfItsVolume picks number unit start a.0 earlier a.1 b)

-- ---- the volume that was brought online

-- by a call an end of Success with this endcode came for the host, of a command to this unit which had its step
abbrev pub Succeeds : {K : Type 0} → ℕ → ℕ → Call → Port K → Port K → Type 0
Succeeds code unit (Went outcome (Ok done)) old new =
    (e : End) × Contains (come old new) e × (e.code ≡ code) × (e.unit ≡ unit) × (code_of e.status ≡ codes.success)
Succeeds code unit call old new = ⊥

-- an ONLINE to this unit succeeded since the host wrote IP last, and since then no AVAILABLE did, and no
-- volume came into the unit or went
abbrev pub IsOnline : {K : Type 0} (picks : Picking K) (unit : ℕ) (start p : Port K) (calls : List Call)
    → Answered picks start calls p → Type 0
IsOnline picks unit start p [] a = ⊥
IsOnline picks unit start p (WriteIp ∷ earlier) a = ⊥
IsOnline picks unit start p (call ∷ earlier) a =
    Succeeds endcodes.online unit call a.0 p
    ⊎ ((changed_by unit call ≡ 0) × (Succeeds endcodes.available unit call a.0 p → ⊥)
    × IsOnline picks unit start a.0 earlier a.1)

-- ---- laws

-- the volume in the unit is that of the command which moves its block, and with which the unit is online
pub record IsOnItsVolume {K : Type 0} (picks : Picking K) (u : Upcoming) (start p : Port K) (calls : List Call)
    (a : Answered picks start calls p) : Type 0 where
  pub came : (b : Buffer)
      × IsOfItsVolume picks u.command.reference u.command.unit start p calls a b
  pub online : IsOnline picks u.command.unit start p calls a

-- the law of volumes: whoever calls a port that was made over a controller: where the block of a step is wanted of this
-- unit, into which fewer than 2^32 volumes came so far or went, the volume in the unit is the one that was there as the
-- step's command came, and with which the unit is online
abbrev pub PortsMoveOnTheirVolumes : {K : Type 0} → Picking K → Type 0
PortsMoveOnTheirVolumes {K} picks =
    (hardware : Hardware) (credits : ℕ) (controller : Holdings K) (start p : Port K) (calls : List Call)
    (asks : Bool) (kind : MoveKind) (unit block address count : ℕ) (bytes : List ℕ)
    → IsMadeOf hardware credits controller start → changed unit calls < 0x1_0000_0000
    → (a : Answered picks start (Next asks (actions.Transfer kind unit block address count) bytes ∷ calls) p)
    → (u : Upcoming) × (begun_step p.controller ≡ Some u) × (u.command.unit ≡ unit)
    × IsOnItsVolume picks u start p (Next asks (actions.Transfer kind unit block address count) bytes ∷ calls) a

-- the law of volumes that were there: and so it is where the controller is told of such a block that it went well
abbrev pub PortsCountOnTheirVolumes : {K : Type 0} → Picking K → Type 0
PortsCountOnTheirVolumes {K} picks =
    (hardware : Hardware) (credits : ℕ) (controller : Holdings K) (start p : Port K) (calls : List Call)
    (outcome : Outcome) (done : Unit) (via : Connection) (reference : ℕ) (result : Result Report NotBegun)
    (kind : MoveKind) (unit block address count : ℕ) (bytes : List ℕ)
    → IsUnitList controller.settings.units → IsMadeOf hardware credits controller start
    → AsksAlways (Went outcome (Ok done) ∷ calls)
    → (a : Answered picks start (Went outcome (Ok done) ∷ calls) p)
    → Makes (Went outcome (Ok done)) a.0 p (Finish via reference blocks.Good result ∷ [])
    → wish calls ≡ Some (record { action = actions.Transfer kind unit block address count; bytes = bytes })
    → changed unit calls < 0x1_0000_0000
    → (u : Upcoming) × (begun_step a.0.controller ≡ Some u) × (u.command.unit ≡ unit)
    × IsOnItsVolume picks u start a.0 calls a.1
