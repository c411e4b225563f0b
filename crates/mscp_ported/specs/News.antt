-- Of which units a port tells its host that they are available (manual, "Attention Messages").
use Rattle.std.specs.Prelude.{◌≡◌, ◌/◌, ◌%◌, ◌++◌, ◌∷◌, [], ℕ, true, false, List, slice_get, None, Some}
use Rattle.byteorder.specs.Endian.{little_bytes}
use Rattle.mscp_packet.specs.EndcodeBytes as endcodes
use Rattle.mscp_drive.specs.Shape.{Shape}
use Rattle.mscp_drive.specs.UnitList.{IsUnitList}
use Rattle.mscp_controller.specs.Holdings.{Holdings}
use Rattle.mscp_port.specs.declared.hardware.Hardware.{Hardware}
use Rattle.mscp_port.specs.declared.port.Outgoing.{Outgoing}
use Rattle.mscp_port.specs.declared.port.OutgoingKind.TheVariants as kinds
use Rattle.mscp_port.specs.declared.port.Port.{Port}
use Rattle.mscp_port.specs.declared.volumes.Volume.{Volume}
use Rattle.mscp_port.specs.Calls.{IsMadeOf}
use Rattle.mscp_port.specs.Histories.{Answered, Call, Picking}
use Rattle.mscp_port.specs.Volumes.{volume_at}
use Rattle.mscp_ported.specs.UnitFlags.{flags_of_unit}

-- the message: no reference number, the unit's number, the code of an Available and no status; and then the unit's
-- number as that of its multi-unit, its flags, its identifier, and the type of its volume
abbrev pub available_text : Shape → Volume → List ℕ
available_text unit v =
    (little_bytes 4 0 ++ little_bytes 2 unit.number ++ (0 ∷ 0 ∷ endcodes.available_attention ∷ 0 ∷ [])
    ++ little_bytes 2 0)
    ++ little_bytes 2 unit.number ++ little_bytes 2 (flags_of_unit v) ++ little_bytes 4 0 ++ little_bytes 8 unit.id
    ++ little_bytes 4 v.media

-- the host of a port as this wants to hear of units (by the controller's flag 0x80); in the unit at this place is a
-- volume with which it isn't online; and that is what is said
pub record IsAvailable {K : Type 0} (p : Port K) (o : Outgoing) (place : ℕ) : Type 0 where
  pub wanted : p.flags / 0x80 % 2 ≡ 1
  pub there : (volume_at p.volumes place).is_there ≡ true
  pub offline : (volume_at p.volumes place).is_mounted ≡ false
  pub said : (unit : Shape) × (slice_get p.controller.settings.units place ≡ Some unit)
      × (o.bytes.items ≡ available_text unit (volume_at p.volumes place))

-- the law of news: whoever calls a port that was made over a controller of such units: if an attention message begins
-- to go out by a call, the unit of which it tells is available
abbrev pub PortsAnnounceAvailableUnits : {K : Type 0} → Picking K → Type 0
PortsAnnounceAvailableUnits {K} picks =
    (hardware : Hardware) (credits : ℕ) (controller : Holdings K) (start p : Port K) (call : Call) (calls : List Call)
    (o : Outgoing) → IsUnitList controller.settings.units → IsMadeOf hardware credits controller start
    → (a : Answered picks start (call ∷ calls) p) → a.0.outgoing ≡ None → p.outgoing ≡ Some o
    → o.kind ≡ kinds.Attention → (place : ℕ) × IsAvailable a.0 o place
