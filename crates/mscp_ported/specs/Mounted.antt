-- With which volume a unit is online, and what its host protects, as the history of a port tells.
use Rattle.std.specs.Prelude.{◌≡◌, ◌⊎◌, ◌%◌, ◌/◌, ◌==◌, ℕ, Bool, true, false, if◌then◌else◌, List, [], ◌∷◌, Option, None, Some, Result, Ok}
use Rattle.mscp_packet.specs.EndcodeBytes as endcodes
use Rattle.mscp_packet.specs.declared.command.MoveKind.{MoveKind}
use Rattle.mscp_packet.specs.declared.end.End.{End}
use Rattle.mscp_drive.specs.declared.connection.Connection.{Connection}
use Rattle.mscp_queue.specs.declared.report.Report.{Report}
use Rattle.mscp_queue.specs.Names.{name_on}
use Rattle.mscp_controller.specs.declared.entry.NotBegun.{NotBegun}
use Rattle.mscp_controller.specs.Holdings.{Finishes, Holdings}
use Rattle.mscp_port.specs.declared.action.Action.TheVariants as actions
use Rattle.mscp_port.specs.declared.buffers.Buffer.{Buffer}
use Rattle.mscp_port.specs.declared.hardware.Hardware.{Hardware}
use Rattle.mscp_port.specs.declared.port.Port.{Port}
use Rattle.mscp_port.specs.declared.verdict.Verdict.{Verdict}
use Rattle.mscp_port.specs.Blocks.{block_told, kept_of, writes}
use Rattle.mscp_port.specs.Calls.{IsMadeOf}
use Rattle.mscp_ported.specs.Departures.{IsForgotten}
use Rattle.mscp_port.specs.Histories.{Answered, Picking, Call, Next, VolumeCame, VolumeWent}
use Rattle.mscp_port.specs.Moved.{HeedsStep, end_brought, place_heeded}
use Rattle.mscp_port.specs.Volumes.{place_in, volume_at}

-- what a host has made of a unit: it is online with the volume that was there when so many had come or gone, if it is
-- online; and nothing may be written on it
pub record Mount : Type 0 where
  pub volume : Option ℕ
  pub is_protected : Bool

abbrev pub offline : Mount
offline = record { volume = None; is_protected = false }

-- ---- what the Success of a command makes of it

-- its host protects it by the unit flag 0x1000, if the modifier 4 says that it sets that
abbrev pub flagged : Buffer → Mount → Mount
flagged b m = if b.modifiers / 4 % 2 == 1 then record m { is_protected = b.flags / 0x1000 % 2 == 1 } else m

-- by the endcode: AVAILABLE takes it offline, ONLINE brings it online with the volume that is there as it ends, before
-- which so many had come or gone, and sets the flags, as SET UNIT CHARACTERISTICS does
abbrev pub mount_after : ℕ → Option Buffer → ℕ → Mount → Mount
mount_after code None changes m = if code == endcodes.available then offline else m
mount_after code (Some b) changes m =
    if code == endcodes.available then offline
    else if code == endcodes.online then flagged b (record m { volume = Some changes })
    else if code == endcodes.set_unit_characteristics then flagged b m
    else m

-- ---- over a history

-- by a call this end of Success came, of a command of this connection, to the unit at this place: the controller took
-- the step that brought it
pub record Ends {K : Type 0} (picks : Picking K) (place : ℕ) (old new : Port K) (via : Connection)
    (e : End) : Type 0 where
  pub step : (reference : ℕ) × (verdict : Verdict) × (result : Result Report NotBegun)
      × Finishes (picks old.controller.picker) (name_on via reference)
      (block_told verdict) old.controller result new.controller
      × (end_brought result ≡ Some e) × HeedsStep via verdict (Some e) old new
  pub unit : place_heeded old.controller.settings.units e ≡ Some place

-- it says that a volume came into that unit, or went
abbrev pub IsChangeAt : {K : Type 0} → ℕ → Call → Port K → Type 0
IsChangeAt place (VolumeCame m unit (Ok done)) old = place_in old.controller.settings.units unit ≡ Some place
IsChangeAt place (VolumeWent unit result) old = place_in old.controller.settings.units unit ≡ Some place
IsChangeAt place call old = ⊥

-- all is forgotten, or the unit is mounted anew, or has another volume
abbrev pub IsRemounted : {K : Type 0} → Picking K → ℕ → Call → Port K → Port K → Type 0
IsRemounted picks place call old new =
    IsForgotten old new ⊎ ((via : Connection) × (e : End) × Ends picks place old new via e) ⊎ IsChangeAt place call old

-- what the host has made of the unit at a place: it begins offline, and is so again once all is forgotten. Each end of
-- Success makes of it what its endcode says, by what is kept of its command, and another volume isn't protected
abbrev pub IsMounted : {K : Type 0} (picks : Picking K) (place : ℕ) (start p : Port K) (calls : List Call)
    → Answered picks start calls p → Mount
    → Type 0
IsMounted picks place start p [] a m = m ≡ offline
IsMounted picks place start p (call ∷ earlier) a m =
    (IsForgotten a.0 p × (m ≡ offline))
    ⊎ ((via : Connection) × (e : End) × Ends picks place a.0 p via e
    × (before : Mount) × IsMounted picks place start a.0 earlier a.1 before
    × (m ≡ mount_after e.code (kept_of via e.reference a.0.buffers.items) (volume_at a.0.volumes place).changes before))
    ⊎ (IsChangeAt place call a.0 × (before : Mount) × IsMounted picks place start a.0 earlier a.1 before
    × (m ≡ record before { is_protected = false }))
    ⊎ ((IsRemounted picks place call a.0 p → ⊥) × IsMounted picks place start a.0 earlier a.1 m)

-- the law of mounts: whoever calls a port that was made over a controller, a block is moved only where the volume in
-- its unit is the one that this was brought online with, and one that is written or erased only where its host doesn't
-- protect it
abbrev pub PortsMoveAsMounted : {K : Type 0} → Picking K → Type 0
PortsMoveAsMounted {K} picks =
    (hardware : Hardware) (credits : ℕ) (controller : Holdings K) (start p : Port K) (calls : List Call)
    (blocks : Bool) (kind : MoveKind) (unit block address count place : ℕ) (bytes : List ℕ) (m : Mount)
    → IsMadeOf hardware credits controller start
    → (a : Answered picks start (Next blocks (actions.Transfer kind unit block address count) bytes ∷ calls) p)
    → place_in p.controller.settings.units unit ≡ Some place
    → IsMounted picks place start p (Next blocks (actions.Transfer kind unit block address count) bytes ∷ calls) a m
    → (m.volume ≡ Some (volume_at p.volumes place).changes) × (writes kind ≡ true → m.is_protected ≡ false)
