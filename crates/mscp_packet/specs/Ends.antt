-- The layout of end messages. Every one has its command's reference number in bytes 0-3 and unit number in 4-5,
-- its endcode in 8, its status in 10-11, and its body from 12 on (manual, "End Messages").
use Rattle.std.specs.Prelude.{◌≡◌, ℕ, ◌+◌, ◌<◌, ◌≤◌, ◌^◌, nat_eq, nat_lt, if◌then◌else◌, List, [], ◌∷◌, ◌++◌, length, slice_index, replicate, map, find, Option, Some, None, Result, Ok, Err}
use Rattle.std.specs.Option.{option_map}
use Rattle.byteorder.specs.Endian.{little_bytes}
use Rattle.mscp_packet.specs.Number.{num}
use Rattle.mscp_packet.specs.Places.{Field, field}
use Rattle.mscp_packet.specs.EndcodeBytes.{unknown}
use Rattle.mscp_packet.specs.Opcodes.{row_of, opcodes}
use Rattle.mscp_packet.specs.declared.end.EndBody.{EndBody}
use Rattle.mscp_packet.specs.declared.end.EndBody.TheVariants as bodies
use Rattle.mscp_packet.specs.declared.end.BodyKind.{BodyKind}
use Rattle.mscp_packet.specs.declared.end.BodyKind.TheVariants as kinds
use Rattle.mscp_packet.specs.declared.end.End.{End}
use Rattle.mscp_packet.specs.declared.reading.EndFault.{EndFault}
use Rattle.mscp_packet.specs.declared.reading.EndFault.TheVariants as faults

-- ---- the table

-- each endcode, and the shape of the body that follows it: that of an opcode is its byte with the top bit set (manual,
-- "End Messages"), and that bit alone is the endcode of an unknown opcode (profile)
abbrev pub endcodes : List (ℕ × BodyKind)
endcodes = (unknown, kinds.Bare) ∷ map (λ o. ((row_of o).byte + unknown, (row_of o).body)) opcodes

-- the shape of the body that follows an endcode. No other byte is one
abbrev pub kind_of_code : ℕ → Option BodyKind
kind_of_code code = option_map (λ entry. entry.1) (find (λ entry. nat_eq entry.0 code) endcodes)

-- how many bytes an end with a body of a shape has (manual, "End Messages")
abbrev pub end_length : BodyKind → ℕ
end_length kinds.Bare = 12
end_length kinds.Abort = 16
end_length kinds.Status = 20
end_length kinds.UnitStatus = 48
end_length kinds.Controller = 28
end_length kinds.Online = 44
end_length kinds.Moved = 32

-- the fewest bytes of an end with an endcode: any end has 12
abbrev pub least_with : Option BodyKind → ℕ
least_with None = 12
least_with (Some kind) = end_length kind

abbrev pub least_end : ℕ → ℕ
least_end code = least_with (kind_of_code code)

-- ---- reading

-- the body of a shape in a long enough message (manual, "End Messages")
abbrev pub body_at : BodyKind → List ℕ → EndBody
body_at kinds.Bare b = bodies.Bare
body_at kinds.Abort b = bodies.Abort (num b 12 4)
body_at kinds.Status b = bodies.Status (num b 12 4) (num b 16 4)
body_at kinds.UnitStatus b =
    bodies.UnitStatus (num b 20 8) (num b 28 4) (num b 36 2) (num b 38 2) (num b 40 2)
body_at kinds.Controller b = bodies.Controller (num b 16 2) (num b 20 8)
body_at kinds.Online b = bodies.Online (num b 20 8) (num b 28 4) (num b 36 4) (num b 40 4)
body_at kinds.Moved b = bodies.Moved (num b 12 4)

-- a long enough message has this body of this shape
abbrev pub HasBody : Option BodyKind → List ℕ → EndBody → Type 0
HasBody None b body = ⊥
HasBody (Some kind) b body = (end_length kind ≤ length b) × (body ≡ body_at kind b)

-- the bytes b, of which there are 12 to 64 (profile), are the end e (manual, "End Messages"). Nothing is asked of any
-- other place
pub record IsEnd (b : List ℕ) (e : End) : Type 0 where
  pub low : 12 ≤ length b
  pub high : length b ≤ 64
  pub reference : e.reference ≡ num b 0 4
  pub unit : e.unit ≡ num b 4 2
  pub code : e.code ≡ slice_index b 8
  pub status : e.status ≡ num b 10 2
  pub body : HasBody (kind_of_code (slice_index b 8)) b e.body

-- the message is under the length of its endcode, if it has one
abbrev pub IsUnder : Option BodyKind → ℕ → Type 0
IsUnder None size = ⊥
IsUnder (Some kind) size = size < end_length kind

-- the end in a message whose body is of a shape (manual, "End Messages")
abbrev pub end_at : BodyKind → List ℕ → End
end_at kind b =
    record {
      reference = num b 0 4;
      unit = num b 4 2;
      code = slice_index b 8;
      status = num b 10 2;
      body = body_at kind b;
    }

-- what a message of 12 to 64 bytes is read as: an end where its endcode is one, and it has the length of that (profile)
abbrev pub reading_with : Option BodyKind → List ℕ → Result End EndFault
reading_with None b = Err faults.Code
reading_with (Some kind) b = if nat_lt (length b) (end_length kind) then Err faults.Length else Ok (end_at kind b)

-- ---- refused commands

-- a body of a shape with every field 0
abbrev pub zero_body : Option BodyKind → EndBody
zero_body None = bodies.Bare
zero_body (Some kinds.Bare) = bodies.Bare
zero_body (Some kinds.Abort) = bodies.Abort 0
zero_body (Some kinds.Status) = bodies.Status 0 0
zero_body (Some kinds.UnitStatus) = bodies.UnitStatus 0 0 0 0 0
zero_body (Some kinds.Controller) = bodies.Controller 0 0
zero_body (Some kinds.Online) = bodies.Online 0 0 0 0
zero_body (Some kinds.Moved) = bodies.Moved 0

-- the body of the end of a refused command whose end has this endcode (profile)
abbrev pub refused_body : ℕ → EndBody
refused_body code = zero_body (kind_of_code code)

-- ---- writing

-- which unit and medium it is: bytes 12 to 35 (manual, "End Messages"). The multi-unit code and the unit flags, in 12
-- to 15, are zero (profile)
abbrev pub unit_bytes : ℕ → ℕ → List ℕ
unit_bytes id media = replicate 8 0 ++ little_bytes 8 id ++ little_bytes 4 media ++ replicate 4 0

-- what is written from byte 12 on (manual, "End Messages"). The version, the controller flags and the version numbers
-- of a controller are zero (profile)
abbrev pub body_bytes : EndBody → List ℕ
body_bytes bodies.Bare = []
body_bytes (bodies.Abort other) = little_bytes 4 other
body_bytes (bodies.Status other figure) = little_bytes 4 other ++ little_bytes 4 figure
body_bytes (bodies.UnitStatus id media track group cylinder) =
    unit_bytes id media ++ little_bytes 2 track ++ little_bytes 2 group ++ little_bytes 2 cylinder ++ replicate 6 0
body_bytes (bodies.Controller timeout id) =
    replicate 4 0 ++ little_bytes 2 timeout ++ replicate 2 0 ++ little_bytes 8 id
body_bytes (bodies.Online id media size serial) =
    unit_bytes id media ++ little_bytes 4 size ++ little_bytes 4 serial
body_bytes (bodies.Moved count) = little_bytes 4 count ++ replicate 16 0

-- the message that is written of an end (manual, "End Messages"). The flags, in byte 9, are zero (profile)
abbrev pub end_bytes : End → List ℕ
end_bytes e =
    little_bytes 4 e.reference
    ++ little_bytes 2 e.unit
    ++ replicate 2 0
    ++ (e.code ∷ [])
    ++ (0 ∷ [])
    ++ little_bytes 2 e.status
    ++ body_bytes e.body

-- the shape of a body
abbrev pub kind_of_body : EndBody → BodyKind
kind_of_body bodies.Bare = kinds.Bare
kind_of_body (bodies.Abort other) = kinds.Abort
kind_of_body (bodies.Status other figure) = kinds.Status
kind_of_body (bodies.UnitStatus id media track group cylinder) = kinds.UnitStatus
kind_of_body (bodies.Controller timeout id) = kinds.Controller
kind_of_body (bodies.Online id media size serial) = kinds.Online
kind_of_body (bodies.Moved count) = kinds.Moved

-- the body is of the shape that follows the endcode
abbrev pub IsOfKind : End → Type 0
IsOfKind e = kind_of_code e.code ≡ Some (kind_of_body e.body)

-- where the fields of a body stand (manual, "End Messages")
abbrev pub body_fields : BodyKind → List Field
body_fields kinds.Bare = []
body_fields kinds.Abort = field 12 4 ∷ []
body_fields kinds.Status = field 12 4 ∷ field 16 4 ∷ []
body_fields kinds.UnitStatus = field 20 8 ∷ field 28 4 ∷ field 36 2 ∷ field 38 2 ∷ field 40 2 ∷ []
body_fields kinds.Controller = field 16 2 ∷ field 20 8 ∷ []
body_fields kinds.Online = field 20 8 ∷ field 28 4 ∷ field 36 4 ∷ field 40 4 ∷ []
body_fields kinds.Moved = field 12 4 ∷ []

-- every named place of an end: reference number, unit number, endcode, status and body (manual, "End Messages")
abbrev pub end_fields : EndBody → List Field
end_fields body = field 0 4 ∷ field 4 2 ∷ field 8 1 ∷ field 10 2 ∷ body_fields (kind_of_body body)

-- the numbers of a body fit their types
abbrev pub HasBodyRange : EndBody → Type 0
HasBodyRange bodies.Bare = Unit {0}
HasBodyRange (bodies.Abort other) = other < 2 ^ 32
HasBodyRange (bodies.Status other figure) = (other < 2 ^ 32) × (figure < 2 ^ 32)
HasBodyRange (bodies.UnitStatus id media track group cylinder) =
    (id < 2 ^ 64) × (media < 2 ^ 32) × (track < 2 ^ 16) × (group < 2 ^ 16) × (cylinder < 2 ^ 16)
HasBodyRange (bodies.Controller timeout id) = (timeout < 2 ^ 16) × (id < 2 ^ 64)
HasBodyRange (bodies.Online id media size serial) =
    (id < 2 ^ 64) × (media < 2 ^ 32) × (size < 2 ^ 32) × (serial < 2 ^ 32)
HasBodyRange (bodies.Moved count) = count < 2 ^ 32

-- the numbers of an end fit their types
abbrev pub HasEndRange : End → Type 0
HasEndRange e = (e.reference < 2 ^ 32) × (e.unit < 2 ^ 16) × (e.status < 2 ^ 16) × HasBodyRange e.body

-- ---- both ways

-- the bytes of an end are a message of it, where its numbers fit their types and its body is of the shape that
-- follows its endcode
abbrev pub EndBytesAreMessages : Type 0
EndBytesAreMessages = (e : End) → IsOfKind e → HasEndRange e → IsEnd (end_bytes e) e
