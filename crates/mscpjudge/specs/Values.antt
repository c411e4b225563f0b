-- What is written of a moment that breaks a rule: what it tells, and what that is compared with.
use Rattle.std.specs.Prelude.{ℕ, nat_eq, nat_lt, if◌then◌else◌, List, [], ◌∷◌, ◌++◌, codes, length, slice_index, Option, Some, None}
use Rattle.std.specs.Fmt.{decimal}
use Rattle.std.specs.Int.{to_be_bytes, w16, w32, w64}
use Rattle.hex.specs.Hex.{encode_lower}
use Rattle.mscp_packet.specs.Number.{num}
use Rattle.mscp_wire.specs.Wire.{answer_by}
use Rattle.mscp_wire.specs.declared.answer.Answer.{Answer}
use Rattle.mscp_wire.specs.declared.identity.Identity.{Identity}
use Rattle.mscp_wire.specs.declared.moment.Moment.{Moment}
use Rattle.mscp_wire.specs.declared.moment.Moment.TheVariants as moments
use Rattle.mscp_wire.specs.declared.rule.Rule.{Rule}
use Rattle.mscp_wire.specs.declared.rule.Rule.TheVariants as rules
use Rattle.mscp_wire.specs.declared.sent.Asked.{Asked}
use Rattle.mscp_wire.specs.declared.sent.Asked.TheVariants as asks
use Rattle.mscp_wire.specs.declared.sent.Sent.{Sent}
use Rattle.mscp_wire.specs.declared.told.Seen.{Seen}
use Rattle.mscpjudge.specs.Commands.{command_text}
use Rattle.mscpjudge.specs.Lengths.{length_text}

-- ---- numbers

-- a number, if there is one
abbrev pub number_text : Option ℕ → List ℕ
number_text None = codes "none"
number_text (Some n) = decimal n

-- bytes in hexadecimal
abbrev pub hex_text : List ℕ → List ℕ
hex_text bytes = codes "0x" ++ encode_lower bytes

-- numbers of one and two bytes, the highest first
unfoldable pub byte_text : ℕ → List ℕ
byte_text n = hex_text (n ∷ [])

unfoldable pub short_text : ℕ → List ℕ
short_text n = hex_text (to_be_bytes w16 n)

-- ---- what a moment tells

-- how long it is
abbrev pub bytes_text : List ℕ → List ℕ
bytes_text b = decimal (length b) ++ codes " bytes\n"

-- a byte and a number of two bytes in hexadecimal, each behind words
abbrev pub codes_text : List ℕ → ℕ → List ℕ → ℕ → List ℕ
codes_text word code behind status = word ++ byte_text code ++ behind ++ short_text status

-- the command and the unit that an end names, and how long it is
unfoldable pub named_text : List ℕ → List ℕ
named_text b =
    (codes ", command " ++ decimal (num b 0 4)) ++ (codes " of unit " ++ decimal (num b 4 2)) ++ codes ", "
    ++ bytes_text b

-- an end: its endcode, its status, what it names and how long it is
abbrev pub end_text : List ℕ → List ℕ
end_text b =
    codes_text (codes "end: endcode ") (slice_index b 8) (codes ", status ") (num b 10 2) ++ named_text b

-- a byte in hexadecimal behind a word, and how long a packet is
abbrev pub coded_text : List ℕ → ℕ → List ℕ → List ℕ
coded_text word code b = word ++ byte_text code ++ codes ", " ++ bytes_text b

-- a message: its opcode
abbrev pub message_text : List ℕ → List ℕ
message_text b = coded_text (codes "message: opcode ") (slice_index b 8) b

-- either of them, unless it is too short for these
unfoldable pub told_text : Moment → List ℕ
told_text (moments.Message via b time) =
    if nat_lt (length b.items) 12 then (codes "message: " ++ bytes_text b.items) else message_text b.items
told_text (moments.End via b) =
    if nat_lt (length b.items) 12 then (codes "end: " ++ bytes_text b.items) else end_text b.items
told_text m = []

-- ---- what that is compared with

-- what a line has of two numbers
abbrev pub both_text : List ℕ → Option ℕ → List ℕ → Option ℕ → List ℕ
both_text word told behind other = word ++ number_text told ++ behind ++ number_text other ++ codes "\n"

-- the last figure of the command that a poll is about
abbrev pub last_of : Asked → Option ℕ
last_of asks.Nothing = None
last_of (asks.Oldest last) = last
last_of (asks.Gone last) = last

-- the command that is passed
abbrev pub passed_text : Option Sent → List ℕ
passed_text None = []
passed_text (Some s) = codes "passes: " ++ command_text s

-- a line of bytes that were told, and of those that were told before
abbrev pub was_text : List ℕ → List ℕ → List ℕ → List ℕ
was_text word told known = word ++ hex_text told ++ codes ", was " ++ hex_text known ++ codes "\n"

-- of two identifiers, in hexadecimal, unless they are one
abbrev pub identifier_text : ℕ → ℕ → List ℕ
identifier_text told known =
    if nat_eq told known then []
    else was_text (codes "identifier: ") (to_be_bytes w64 told) (to_be_bytes w64 known)

-- of two media types
abbrev pub media_text : ℕ → ℕ → List ℕ
media_text told known =
    if nat_eq told known then []
    else was_text (codes "media type: ") (to_be_bytes w32 told) (to_be_bytes w32 known)

-- and of two sizes
abbrev pub size_text : Option ℕ → Option ℕ → List ℕ
size_text (Some told) (Some known) =
    if nat_eq told known then [] else both_text (codes "size: ") (Some told) (codes ", was ") (Some known)
size_text told known = []

-- what of an identity differs
unfoldable pub differing_text : Identity → Identity → List ℕ
differing_text told known =
    identifier_text told.identifier known.identifier ++ media_text told.media known.media
    ++ size_text told.size known.size

abbrev pub identity_text : Option Identity → Option Identity → List ℕ
identity_text (Some told) (Some known) = differing_text told known
identity_text told known = []

abbrev pub controller_text : Option ℕ → Option ℕ → List ℕ
controller_text (Some told) (Some known) = identifier_text told known
controller_text told known = []

-- the figure of the command that is polled, and the last one
abbrev pub figure_text : Option ℕ → Option ℕ → Option ℕ → List ℕ
figure_text polled told last =
    codes "figure of command " ++ number_text polled ++ both_text (codes ": ") told (codes ", the last was ") last

-- of an end of this command that breaks a rule
unfoldable pub compared_text : Rule → Answer → Sent → Option Sent → Seen → List ℕ
compared_text rules.Order e y passed seen = passed_text passed
compared_text rules.About e y passed seen =
    both_text (codes "names: command ") e.parameter (codes ", not ") y.parameter
compared_text rules.Figure e y passed seen = figure_text y.parameter e.figure (last_of y.asked)
compared_text rules.Count e y passed seen =
    both_text (codes "bytes: ") e.parameter (codes ", asked for ") y.parameter
compared_text rules.Identity e y passed seen = identity_text e.identity seen.unit.identity
compared_text rules.Controller e y passed seen = controller_text e.controller seen.controller
compared_text rule e y passed seen = []

-- of a moment, which is about this command
unfoldable pub answered_text : Rule → Moment → Option Sent → Option Sent → Seen → List ℕ
answered_text rule (moments.End via b) (Some y) passed seen =
    if nat_lt (length b.items) 12 then [] else compared_text rule (answer_by via b.items) y passed seen
answered_text rule m y passed seen = []

-- the same. Of an end that is too short it isn't asked which command that is
unfoldable pub against_text : Rule → Moment → Option Sent → Option Sent → Seen → List ℕ
against_text rules.Length (moments.End via b) command passed seen = length_text b.items
against_text rule m command passed seen = answered_text rule m command passed seen
