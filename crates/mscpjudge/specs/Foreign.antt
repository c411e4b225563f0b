-- The line of a command that this project's controller doesn't know and others serve, as FLUSH, and of its end.
use Rattle.std.specs.Prelude.{ℕ, ◌%◌, ◌&&◌, nat_le, nat_lt, if◌then◌else◌, List, ◌++◌, codes, length, slice_index, Bool, Option, Some, None}
use Rattle.std.specs.Fmt.{decimal}
use Rattle.mscp_packet.specs.Number.{num}
use Rattle.mscp_packet.specs.EndcodeBytes as endcodes
use Rattle.mscp_packet.specs.Opcodes.{has_row, opcode_name}
use Rattle.mscp_text.specs.Common as packets
use Rattle.mscp_wire.specs.Messages.{is_unknown}

-- an opcode has a name, and no line of a packet knows it (profile)
abbrev pub is_foreign : ℕ → Bool
is_foreign opcode = has_row opcode && is_unknown opcode

-- the opcode of a command or an end of 12 to 64 bytes, if it is such a one: the top bit of byte 8 tells an end (manual,
-- "End Messages")
abbrev pub foreign_of : List ℕ → Option ℕ
foreign_of b =
    if nat_le 12 (length b) && nat_le (length b) 64 && is_foreign (slice_index b 8 % endcodes.unknown)
    then Some (slice_index b 8 % endcodes.unknown)
    else None

-- its number and its unit, behind a word
abbrev pub about_text : List ℕ → List ℕ → List ℕ
about_text word b = (word ++ decimal (num b 0 4)) ++ (codes " unit " ++ decimal (num b 4 2))

-- an endcode and a status, as lines of packets tell them
unfoldable pub code_text : ℕ → List ℕ
code_text code = packets.code_text code

unfoldable pub status_text : ℕ → List ℕ
status_text status = packets.status_text status

-- those of an end
abbrev pub told_text : List ℕ → List ℕ
told_text b = codes " code " ++ code_text (slice_index b 8) ++ codes " status " ++ status_text (num b 10 2)

-- what a command or an end of this opcode is, without its name
abbrev pub unnamed_text : List ℕ → List ℕ
unnamed_text b =
    if nat_lt (slice_index b 8) endcodes.unknown then about_text (codes "command ") b
    else about_text (codes "end ") b ++ told_text b

-- its line
unfoldable pub foreign_text : List ℕ → ℕ → List ℕ
foreign_text b opcode = unnamed_text b ++ codes " " ++ opcode_name opcode ++ codes "\n"
