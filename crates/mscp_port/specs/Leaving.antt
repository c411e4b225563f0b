-- What a message says as it leaves for the host: an end as the controller made it, with what was decided of it, and
-- news of a volume (manual, "End Messages", "Attention Messages").
use Rattle.std.specs.Prelude.{ℕ, ◌==◌, ◌||◌, ◌++◌, ◌∷◌, [], Bool, if◌then◌else◌, List, replicate, slice_get, option_map, Option, None, Some}
use Rattle.byteorder.specs.Endian.{little_bytes}
use Rattle.mscp_drive.specs.Shape.{Shape}
use Rattle.mscp_drive.specs.UnitList.{unit_found}
use Rattle.mscp_packet.specs.EndcodeBytes as endcodes
use Rattle.mscp_packet.specs.Ends.{end_bytes}
use Rattle.mscp_packet.specs.StatusCodes as codes
use Rattle.mscp_packet.specs.Statuses as statuses
use Rattle.mscp_packet.specs.Statuses.{code_of}
use Rattle.mscp_packet.specs.declared.end.End.{End}
use Rattle.mscp_packet.specs.declared.end.EndBody.{EndBody}
use Rattle.mscp_packet.specs.declared.end.EndBody.TheVariants as bodies
use Rattle.mscp_port.specs.declared.decided.Decided.{Decided}
use Rattle.mscp_port.specs.declared.hardware.Hardware.{Hardware}
use Rattle.mscp_port.specs.declared.port.Outgoing.{Outgoing}
use Rattle.mscp_port.specs.declared.port.OutgoingKind.TheVariants as kinds
use Rattle.mscp_port.specs.declared.port.Port.{Port}
use Rattle.mscp_port.specs.declared.volumes.Volume.{Volume}
use Rattle.mscp_port.specs.Decided.{unit_flags}
use Rattle.mscp_port.specs.Formalities.{ends_formality}
use Rattle.mscp_port.specs.Volumes.{volume_at}

-- ---- parts

-- the first 12 bytes: reference number, unit, code and status
abbrev pub head : ℕ → ℕ → ℕ → ℕ → List ℕ
head reference unit code status =
    little_bytes 4 reference ++ little_bytes 2 unit ++ (0 ∷ 0 ∷ code ∷ 0 ∷ []) ++ little_bytes 2 status

-- bytes 12 to 31, of a unit: its number as that of its multi-unit, its flags, its identifier, and the type of its media
abbrev pub unit_part : Shape → ℕ → ℕ → List ℕ
unit_part unit flags media =
    little_bytes 2 unit.number ++ little_bytes 2 flags ++ little_bytes 4 0 ++ little_bytes 8 unit.id
    ++ little_bytes 4 media

-- bytes 32 to 35: its number as that of its shadow unit, and no status of that
abbrev pub shadow_part : Shape → List ℕ
shadow_part unit = little_bytes 2 unit.number ++ little_bytes 2 0

abbrev pub unit_end : End → Decided → Shape → List ℕ
unit_end e told unit =
    head e.reference e.unit e.code told.status ++ unit_part unit told.flags told.media ++ shadow_part unit

-- ---- ends

-- an ONLINE or a SET UNIT CHARACTERISTICS tells the blocks of the volume, and the serial number of the unit's
abbrev pub online_end : End → Decided → Shape → List ℕ
online_end e told unit = unit_end e told unit ++ little_bytes 4 told.size ++ little_bytes 4 unit.serial

-- a GET UNIT STATUS the unit's sizes
abbrev pub unit_status_end : End → Decided → Shape → List ℕ
unit_status_end e told unit =
    unit_end e told unit ++ little_bytes 2 unit.track ++ little_bytes 2 unit.group ++ little_bytes 2 unit.cylinder
    ++ replicate 6 0

-- a SET CONTROLLER CHARACTERISTICS the flags and the timeout, the versions of software and hardware, and the
-- controller's identifier
abbrev pub controller_end : End → Decided → Hardware → ℕ → ℕ → List ℕ
controller_end e told h timeout id =
    head e.reference e.unit e.code told.status ++ little_bytes 2 0 ++ little_bytes 2 told.flags
    ++ little_bytes 2 timeout ++ (h.software ∷ h.version ∷ []) ++ little_bytes 8 id ++ little_bytes 4 0

-- Success, Unit-Offline and Unit-Available tell of the unit
abbrev pub tells_unit : ℕ → Bool
tells_unit status =
    code_of status == codes.success || code_of status == codes.unit_offline || code_of status == codes.unit_available

-- any other end leaves as the controller made it, but with the status that was decided
abbrev pub plain_end : End → Decided → List ℕ
plain_end e told = end_bytes (record e { status = told.status })

-- by its body, to this unit, or to none that is there
abbrev pub end_with_body : EndBody → End → Decided → Option Shape → Hardware → List ℕ
end_with_body (bodies.Online id media size serial) e told (Some unit) h =
    if tells_unit told.status then online_end e told unit else plain_end e told
end_with_body (bodies.UnitStatus id media track group cylinder) e told (Some unit) h =
    if tells_unit told.status then unit_status_end e told unit else plain_end e told
end_with_body (bodies.Controller timeout id) e told unit h =
    if told.status == statuses.success then controller_end e told h timeout id else plain_end e told
end_with_body body e told unit h = plain_end e told

-- that of a formality has no more than a head
abbrev pub end_told : End → Decided → Option Shape → Hardware → List ℕ
end_told e told unit h =
    if ends_formality told.code then head e.reference e.unit told.code told.status
    else end_with_body e.body e told unit h

abbrev pub end_left : End → Option Decided → Option Shape → Hardware → List ℕ
end_left e None unit h = end_bytes e
end_left e (Some told) unit h = end_told e told unit h

-- the bytes with which the controller's oldest end leaves
abbrev pub told_end : {K : Type 0} → Port K → End → List ℕ
told_end p e = end_left e (slice_get p.decided.items 0) (unit_found p.controller.settings.units e.unit) p.hardware

-- ---- news

-- the attention message that a volume came into a unit: an Available of the unit
abbrev pub attention : Shape → Volume → List ℕ
attention unit v =
    head 0 unit.number endcodes.available_attention 0 ++ unit_part unit (unit_flags v) v.media

-- what goes out with news of the volume at a place
abbrev pub news_at : List Shape → List Volume → ℕ → Option Outgoing
news_at units volumes place =
    option_map (λ unit. record {
      bytes = record { items = attention unit (volume_at volumes place) };
      kind = kinds.Attention;
    }) (slice_get units place)
