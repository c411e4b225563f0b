-- What an end says that only its port knows: it is decided as its command ends, also where the end leaves much later
-- (manual, "Status and Event Codes", "Unit Flags").
use Rattle.std.specs.Prelude.{ℕ, ◌+◌, ◌%◌, ◌==◌, ◌&&◌, ◌||◌, ◌++◌, ◌∷◌, [], not, nat_lt, if◌then◌else◌, List, length, map, drop, slice_index, Option, None, Some}
use Rattle.mscp_drive.specs.Both.{of}
use Rattle.mscp_drive.specs.Shape.{Shape}
use Rattle.mscp_drive.specs.UnitList.{unit_found}
use Rattle.mscp_drive.specs.declared.block.Block.TheVariants as blocks
use Rattle.mscp_drive.specs.declared.connection.Connection.{Connection}
use Rattle.mscp_drive.specs.declared.connection.Connection.TheVariants.{First, Second}
use Rattle.mscp_controller.specs.declared.entry.Sent.{Sent}
use Rattle.mscp_controller.specs.declared.entry.Sent.TheVariants as sents
use Rattle.mscp_packet.specs.EndcodeBytes as endcodes
use Rattle.mscp_packet.specs.Number.{num}
use Rattle.mscp_packet.specs.Statuses as statuses
use Rattle.mscp_packet.specs.declared.end.End.{End}
use Rattle.mscp_port.specs.declared.decided.Decided.{Decided}
use Rattle.mscp_port.specs.declared.port.Port.{Port}
use Rattle.mscp_port.specs.declared.verdict.Verdict.{Verdict}
use Rattle.mscp_port.specs.declared.verdict.Verdict.TheVariants as verdicts
use Rattle.mscp_port.specs.declared.volumes.Volume.{Volume}
use Rattle.mscp_port.specs.Blocks.{kept_of}
use Rattle.mscp_port.specs.Formalities.{code_told, ends_formality, formal_status}
use Rattle.mscp_port.specs.Volumes.{volume_found}

-- ---- a unit

-- the flags of a unit: the controller replaces bad blocks, the hardware and the host protect what is written, and the
-- volume can be taken out
abbrev pub unit_flags : Volume → ℕ
unit_flags v =
    0x8000 + (if v.is_protected then 0x2000 else 0) + (if v.is_protected_by_host then 0x1000 else 0)
    + (if v.is_removable then 0x80 else 0)

-- what a GET UNIT STATUS says: Unit-Offline, no volume; Unit-Available; or Success
abbrev pub unit_state : Volume → ℕ
unit_state v =
    if not v.is_there then statuses.no_volume else if not v.is_mounted then statuses.unit_available
    else statuses.success

-- the status that is told of a step of a command which is no formality, and which went so, with the endcode and the
-- status of its end, while the unit had this volume: a step that had no volume is Unit-Offline, one that its unit
-- wasn't online for is Unit-Available; a GET UNIT STATUS says the unit's state, and the Success of an ONLINE whether it
-- found its unit online already
abbrev pub status_after : Verdict → ℕ → ℕ → Volume → ℕ
status_after verdicts.NoVolume code status v = statuses.no_volume
status_after verdicts.NotOnline code status v = statuses.unit_available
status_after (verdicts.Served block) code status v =
    if code == endcodes.get_unit_status && (status == statuses.success || status == statuses.unit_available) then
    unit_state v
    else if code == endcodes.online && (status == statuses.success || status == statuses.already_online) then
    (if v.is_mounted then statuses.already_online else statuses.success)
    else status

-- of an end that is told with this endcode
abbrev pub status_told : Verdict → ℕ → ℕ → Volume → ℕ
status_told verdict code status v =
    if ends_formality code then formal_status status else status_after verdict code status v

-- ---- an end

-- with this endcode and status, of a unit with this volume: media and size are the unit's if there is none
abbrev pub unit_decided : ℕ → ℕ → Shape → Volume → Decided
unit_decided code status unit v = record {
  code = code;
  status = status;
  flags = unit_flags v;
  media = if v.is_there then v.media else unit.media;
  size = if v.is_there then v.size else unit.size;
}

-- of a SET CONTROLLER CHARACTERISTICS: the host's flags, beside that of a controller which replaces bad blocks
abbrev pub controller_decided : ℕ → ℕ → ℕ → Decided
controller_decided code status flags = record {
  code = code;
  status = status;
  flags = 0x8000 + flags % 0x8000;
  media = 0;
  size = 0;
}

-- of a command to this unit, or to none that is there
abbrev pub found_decided : ℕ → ℕ → Option Shape → Volume → Decided
found_decided code status None v = record { code = code; status = status; flags = 0; media = 0; size = 0 }
found_decided code status (Some unit) v = unit_decided code status unit v

-- of an end that is told with this endcode and status, where the host has set these flags and the end's unit has this
-- volume
abbrev pub end_decided : ℕ → ℕ → End → List Shape → ℕ → Volume → Decided
end_decided code status e units flags v =
    if e.code == endcodes.set_controller_characteristics then controller_decided code status flags
    else found_decided code status (unit_found units e.unit) v

-- of one that was made as a message came
abbrev pub answer_decided : ℕ → List Shape → ℕ → Volume → End → Decided
answer_decided code units flags v e =
    end_decided code (status_told (verdicts.Served blocks.Good) code e.status v) e units flags v

-- ---- the ends that wait

abbrev pub answer_of : {K : Type 0} → Port K → End → Decided
answer_of p e =
    answer_decided (code_told (kept_of First e.reference p.buffers.items) e.code) p.controller.settings.units p.flags
    (volume_found p.controller.settings.units p.volumes e.unit) e

-- once a message was answered, whose ends are those of which nothing was decided yet
abbrev pub decided_answers : {K : Type 0} → List Decided → Port K → List Decided
decided_answers all p = all ++ map (answer_of p) (drop (length all) (of First p.controller.untaken))

-- what is kept of commands is what was kept before
abbrev pub decided_after : {K : Type 0} → Sent → Port K → Port K → List Decided
decided_after (sents.Queued reference) old new = old.decided.items
decided_after (sents.Answered reference aborted) old new =
    decided_answers old.decided.items (record new { buffers = old.buffers })

-- one more, behind the others. There is room for 64
abbrev pub decided_beside : Decided → List Decided → List Decided
decided_beside d all = if nat_lt (length all) 64 then all ++ d ∷ [] else all

-- once a step of a command of a connection went so, which brought this end, which is told with this endcode, and before
-- which its unit had this volume
abbrev pub decided_step : {K : Type 0} → Connection → Verdict → Volume → ℕ → End → List Decided → Port K
    → List Decided
decided_step First verdict before code e all p =
    decided_beside (end_decided code (status_told verdict code e.status before) e p.controller.settings.units p.flags
    (volume_found p.controller.settings.units p.volumes e.unit)) all
decided_step Second verdict before code e all p = all

-- ---- saved

-- what an end says, in the bytes of that
abbrev pub decided_in : List ℕ → Decided
decided_in b = record {
  status = num b 0 2;
  flags = num b 2 2;
  media = num b 4 4;
  size = num b 8 4;
  code = slice_index b 12;
}
