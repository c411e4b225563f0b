-- The lines of a script, the words of a line, and the numbers that words are.
use Rattle.std.specs.Prelude.{ℕ, ◌/◌, ◌%◌, ◌==◌, ◌&&◌, nat_lt, nat_le, Bool, true, false, if◌then◌else◌, List, [], ◌∷◌, length, map, Result, Ok, Err}
use Rattle.std.specs.List.{filter, list_all, slice_split}
use Rattle.std.specs.Str.Lines.{strip_carriage_return}
use Rattle.std.specs.Str.Parse.{digits_value}
use Rattle.hex.specs.Hex.{decode_sized}
use Rattle.hex.specs.declared.error.FromHexError.{FromHexError}
use Rattle.std.specs.Int.{from_be_bytes, w16}
use Rattle.mscp_packet.specs.Steps.{◌>>=◌}
use Rattle.mscp_reader.specs.declared.fault.Cause.{Cause}
use Rattle.mscp_reader.specs.declared.fault.Cause.TheVariants as causes

-- ---- lines

-- what comes after the last line feed is a line only if it has a byte (profile)
abbrev pub without_empty_last : List (List ℕ) → List (List ℕ)
without_empty_last [] = []
without_empty_last ([] ∷ []) = []
without_empty_last (part ∷ parts) = part ∷ without_empty_last parts

-- the lines of a script: its parts between line feeds, each without one carriage return at its end (profile)
unfoldable pub lines : List ℕ → List (List ℕ)
lines bytes = map strip_carriage_return (without_empty_last (slice_split (λ b. b == 10) bytes))

-- ---- words

abbrev pub is_some_word : List ℕ → Bool
is_some_word [] = false
is_some_word (b ∷ bytes) = true

-- the words of a line: its parts between spaces that have a byte (profile)
unfoldable pub words : List ℕ → List (List ℕ)
words line = filter is_some_word (slice_split (λ b. b == 32) line)

-- a comment is a line that begins with '#' (profile)
abbrev pub is_comment : List ℕ → Bool
is_comment [] = false
is_comment (b ∷ bytes) = b == 35

-- a space or a printed ASCII character
abbrev pub is_printed : ℕ → Bool
is_printed b = nat_le 0x20 b && nat_le b 0x7E

-- what a line says: its words, or nothing where it is a comment (profile)
unfoldable pub said : List ℕ → Result (List (List ℕ)) Cause
said line =
    if nat_lt 200 (length line) then Err causes.Long else (
    if is_comment line then Ok [] else (
    if list_all is_printed line then Ok (words line) else Err causes.Byte))

-- ---- numbers

abbrev pub is_digit : ℕ → Bool
is_digit b = nat_le 48 b && nat_le b 57

-- 1 to 10 decimal digits (profile)
abbrev pub is_numeral : List ℕ → Bool
is_numeral word = nat_le 1 (length word) && nat_le (length word) 10 && list_all is_digit word

-- the number of a word, which is at most so much (profile)
unfoldable pub number : ℕ → List ℕ → Result ℕ Cause
number most word =
    if is_numeral word && nat_le (digits_value 10 word) most then Ok (digits_value 10 word) else Err causes.Number

-- a field from 0 to 4294967295
abbrev pub wide : List ℕ → Result ℕ Cause
wide word = number 4294967295 word

-- a field from 0 to 65535
abbrev pub narrow : List ℕ → Result ℕ Cause
narrow word = number 65535 word

-- from 1 to 1000 (profile)
abbrev pub steps_in : ℕ → Result ℕ Cause
steps_in count = if nat_le 1 count && nat_le count 1000 then Ok count else Err causes.Number

-- ---- hexadecimal digits

abbrev pub in_hex : {A : Type 0} → Result A FromHexError → Result A Cause
in_hex (Ok bytes) = Ok bytes
in_hex (Err fault) = Err causes.Hex

-- so many bytes, each of two hexadecimal digits of either case
abbrev pub pairs : ℕ → List ℕ → Result (List ℕ) Cause
pairs count word = in_hex (decode_sized word count)

-- a message of 1 to 64 bytes (profile)
unfoldable pub message : List ℕ → Result (List ℕ) Cause
message word =
    if nat_le 1 (length word / 2) && nat_le (length word / 2) 64 then pairs (length word / 2) word else Err causes.Hex

-- a status of two bytes, the high one first (profile)
unfoldable pub status : List ℕ → Result ℕ Cause
status word = pairs 2 word >>= λ bytes. Ok (from_be_bytes w16 bytes)

-- a bad block's status, whose code is at least 5 (profile)
abbrev pub bad_in : ℕ → Result ℕ Cause
bad_in status = if nat_lt (status % 32) 5 then Err causes.Status else Ok status
