-- A host's messages, as the port sees them.
use Rattle.std.specs.Prelude.{ℕ, ◌+◌, ◌%◌, ◌==◌, ◌&&◌, ◌++◌, Bool, nat_le, nat_lt, length, option_map, List, take, drop, find, slice_index, if◌then◌else◌, Option, None, Some, is_none}
use Rattle.byteorder.specs.Endian.{little_bytes}
use Rattle.mscp_drive.specs.Shape.{Shape}
use Rattle.mscp_packet.specs.EndcodeBytes as endcodes
use Rattle.mscp_packet.specs.Number.{num}
use Rattle.mscp_packet.specs.OpcodeBytes as opcodes
use Rattle.mscp_packet.specs.Opcodes.{is_transfer_opcode}
use Rattle.mscp_packet.specs.Statuses as statuses
use Rattle.mscp_packet.specs.declared.end.End.{End}
use Rattle.mscp_packet.specs.declared.end.EndBody.TheVariants.{Bare, Moved}
use Rattle.mscp_drive.specs.Extent.{blocks}
use Rattle.mscp_port.specs.declared.port.Port.{Port}
use Rattle.mscp_port.specs.declared.volumes.Volume.{Volume}
use Rattle.mscp_port.specs.Formalities.{is_formality, stand_in}
use Rattle.mscp_port.specs.Volumes.{place_in, volume_at}

-- the end of a message with this code and status
abbrev pub bare_end : List ℕ → ℕ → ℕ → End
bare_end b code status = record { reference = num b 0 4; unit = num b 4 2; code = code; status = status; body = Bare }

-- a transfer that has all its fields: ACCESS, ERASE, COMPARE HOST DATA, READ or WRITE
abbrev pub is_transfer : List ℕ → Bool
is_transfer b = is_transfer_opcode (slice_index b 8) && nat_le 32 (length b)

-- why so many bytes from a block on aren't on a volume of this size, if they aren't: the first block isn't, or another
-- one
abbrev pub past_volume : ℕ → ℕ → ℕ → Option ℕ
past_volume size block count =
    if nat_le size block then Some statuses.invalid_block
    else if nat_lt size (block + blocks count) then Some statuses.invalid_version
    else None

-- the volume may have fewer blocks than its unit
abbrev pub volume_refusal : Option Volume → List ℕ → Option ℕ
volume_refusal None b = None
volume_refusal (Some v) b = if v.is_there && is_transfer b then past_volume v.size (num b 28 4) (num b 12 4) else None

-- such a transfer moved no byte
abbrev pub refused_end : List ℕ → ℕ → End
refused_end b status = record (bare_end b (slice_index b 8 + endcodes.unknown) status) { body = Moved 0 }

-- the end of a message to a unit with this volume that the port answers itself, if it does: one for a connection that
-- isn't there has an unknown opcode, a formality of a unit that isn't there has Success, and transfers past their
-- volume are refused
abbrev pub own_end : Bool → Option Volume → List ℕ → Option End
own_end foreign v b =
    if foreign then Some (bare_end b endcodes.unknown statuses.invalid_opcode)
    else if is_none v && is_formality (slice_index b 8) then Some (bare_end b
    (slice_index b 8 + endcodes.unknown) statuses.success)
    else option_map (refused_end b) (volume_refusal v b)

-- the volume of the unit of a number, if there is such a unit
abbrev pub volume_of : {K : Type 0} → Port K → ℕ → Option Volume
volume_of p unit = option_map (volume_at p.volumes) (place_in p.controller.settings.units unit)

abbrev pub own_end_of : {K : Type 0} → Port K → Bool → List ℕ → Option End
own_end_of p foreign b = own_end foreign (volume_of p (num b 4 2)) b

abbrev pub number_or_zero : Option Shape → ℕ
number_or_zero None = 0
number_or_zero (Some unit) = unit.number

-- the number of the first unit that isn't below one, and 0 where there is none
abbrev pub next_unit : List Shape → ℕ → ℕ
next_unit units n = number_or_zero (find (λ unit. nat_le n unit.number) units)

-- a GET UNIT STATUS whose modifier asks for the next unit (manual)
abbrev pub asks_for_next : List ℕ → Bool
asks_for_next b = slice_index b 8 == opcodes.get_unit_status && num b 10 2 % 2 == 1

-- one which asks for the next unit names that
abbrev pub next_named : List Shape → List ℕ → List ℕ
next_named units b =
    if asks_for_next b then take 4 b ++ little_bytes 2 (next_unit units (num b 4 2)) ++ drop 6 b else b

-- what the controller gets of a message: each byte of it but for that, and the stand-in of a formality
abbrev pub handed : List Shape → List ℕ → List ℕ
handed units b = if is_formality (slice_index b 8) then stand_in b else next_named units b
