-- A plain line: printed, ended by a line feed, and read from its first byte to its last.
use Rattle.std.specs.Prelude.{◌≡◌, ℕ, ◌≤◌, ◌&&◌, nat_le, Bool, true, false, List, [], ◌∷◌, ◌++◌, length, take, Result, Ok}
use Rattle.std.specs.List.{list_all}
use Rattle.std.specs.Str.Parse.{digits_value}
use Rattle.mscp_drive.specs.declared.connection.Connection.TheVariants.{First}
use Rattle.mscp_drive.specs.declared.event.Event.{Event}
use Rattle.mscp_reader.specs.Lexical.{is_comment, is_digit, is_printed, words}
use Rattle.mscp_reader.specs.Requests.{asked, request}
use Rattle.mscp_reader.specs.declared.fault.Cause.{Cause}
use Rattle.mscp_reader.specs.declared.events.Form.{Form}

abbrev pub is_letter : ℕ → Bool
is_letter b = nat_le 97 b && nat_le b 122

-- no line, or one that goes on with a space: a word ends before it
abbrev pub IsApart : List ℕ → Type 0
IsApart [] = Unit {0}
IsApart (b ∷ line) = b ≡ 32

-- bytes are what is left of a printed line, whose words these are, and a line feed and others behind it
pub record Ends (bytes : List ℕ) (fields : List (List ℕ)) (behind : List ℕ) : Type 0 where
  pub line : List ℕ
  pub whole : bytes ≡ line ++ 10 ∷ behind
  pub apart : IsApart line
  pub printed : list_all is_printed line ≡ true
  pub are : words line ≡ fields

-- these fields were cut off the first bytes, and left the second
abbrev pub Cuts : List ℕ → List (List ℕ) → List ℕ → Type 0
Cuts old fields new = (more : List (List ℕ)) (behind : List ℕ) → Ends new more behind → Ends old (fields ++ more) behind

-- a word of this meaning was cut off
abbrev pub CutsWord : {A : Type 0} → (List ℕ → Result A Cause) → A → List ℕ → List ℕ → Type 0
CutsWord meaning value old new = (word : List ℕ) × (meaning word ≡ Ok value) × Cuts old (word ∷ []) new

-- fields were cut off by which a line of this form asks for this
abbrev pub Asks : Form → List Event → List ℕ → List ℕ → Type 0
Asks form new old rest = (fields : List (List ℕ)) × (asked First form fields ≡ Ok new) × Cuts old fields rest

-- bytes begin with this many digits, 10 at most, and this is their value
pub record IsNumeral (number digits : ℕ) (bytes : List ℕ) : Type 0 where
  pub few : digits ≤ 10
  pub within : digits ≤ length bytes
  pub all : list_all is_digit (take digits bytes) ≡ true
  pub value : number ≡ digits_value 10 (take digits bytes)

-- bytes are a plain line that asks for this, and others behind its line feed
pub record IsPlain (bytes : List ℕ) (new : List Event) (behind : List ℕ) : Type 0 where
  pub line : List ℕ
  pub whole : bytes ≡ line ++ 10 ∷ behind
  pub printed : list_all is_printed line ≡ true
  pub said : is_comment line ≡ false
  pub asks : request (words line) ≡ Ok new
