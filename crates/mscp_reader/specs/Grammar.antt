-- What the bytes of a script mean: the settings of a controller and a list of events, or the first fault.
use Rattle.std.specs.Prelude.{◌≡◌, ℕ, ◌+◌, ◌*◌, ◌<◌, ◌≤◌, ◌⊎◌, ◌&&◌, nat_lt, nat_le, Bool, if◌then◌else◌, List, [], ◌∷◌, ◌++◌, length, codes, Result, Ok, Err}
use Rattle.std.specs.List.{list_all}
use Rattle.std.specs.Str.{bytes_eq}
use Rattle.mscp_drive.specs.Shape.{Shape}
use Rattle.mscp_drive.specs.Both.{Both}
use Rattle.mscp_drive.specs.Settings.{Settings, configured}
use Rattle.mscp_drive.specs.declared.config.ConfigFault.{ConfigFault}
use Rattle.mscp_drive.specs.declared.event.Event.{Event}
use Rattle.mscp_packet.specs.Steps.{◌>>=◌}
use Rattle.mscp_reader.specs.Lexical.{lines, said, number, wide, narrow}
use Rattle.mscp_reader.specs.Requests.{none, one, five, request}
use Rattle.mscp_reader.specs.declared.fault.Cause.{Cause}
use Rattle.mscp_reader.specs.declared.fault.Cause.TheVariants as causes
use Rattle.mscp_reader.specs.declared.fault.ScriptFault.{ScriptFault}

-- ---- lines of the header

-- the line of this word and of a number, at most so much (profile)
unfoldable pub setting : List ℕ → ℕ → List (List ℕ) → Result ℕ Cause
setting name most [] = Err causes.Word
setting name most (word ∷ fields) = if bytes_eq word name then (one fields >>= number most) else Err causes.Word

-- the credits of these fields: those of the first connection, and those of the second, which has none where nothing is
-- said (profile)
unfoldable pub credits_of : List (List ℕ) → Result (Both ℕ) Cause
credits_of (a ∷ []) = do
  first ← wide a
  Ok (record { first = first; second = 0 })
credits_of (a ∷ b ∷ []) = do
  first ← wide a
  second ← wide b
  Ok (record { first = first; second = second })
credits_of fields = Err causes.Count

-- no size of a unit is zero (profile)
abbrev pub has_sizes : Shape → Bool
has_sizes unit = nat_lt 0 unit.track && nat_lt 0 unit.group && nat_lt 0 unit.cylinder && nat_lt 0 unit.size

-- a unit of these numbers, known by its number plus 1 (profile)
abbrev pub unit_with : ℕ → ℕ → ℕ → ℕ → ℕ → Shape
unit_with n track group cylinder size = record {
  number = n;
  track = track;
  group = group;
  cylinder = cylinder;
  size = size;
  id = n + 1;
  media = 0;
  serial = n + 1;
}

-- a unit, if it has all sizes (profile)
abbrev pub unit_if : Shape → Result Shape Cause
unit_if unit = if has_sizes unit then Ok unit else Err causes.Unit

-- the unit of these fields (profile)
unfoldable pub unit_of : List (List ℕ) → Result Shape Cause
unit_of fields = do
  f ← five fields
  n ← narrow f.0
  track ← narrow f.1
  group ← narrow f.2
  cylinder ← narrow f.3
  size ← wide f.4
  unit_if (unit_with n track group cylinder size)

-- whether units may have one more of this number: there are fewer than 16, each of a lower number (profile)
abbrev pub has_room : List Shape → ℕ → Bool
has_room units number = nat_lt (length units) 16 && list_all (λ other. nat_lt other.number number) units

-- units with one more
abbrev pub one_more : List Shape → Shape → Result (List Shape) Cause
one_more units unit = if has_room units unit.number then Ok (units ++ unit ∷ []) else Err causes.Unit

-- the settings that limits make, if they aren't refused
abbrev pub valid : Result Settings ConfigFault → Result Settings Cause
valid (Ok settings) = Ok settings
valid (Err fault) = Err causes.Config

-- ---- places

-- where a line stands: what the lines before it have set. The last three have all settings that the header makes:
-- a unit has to come, a unit or `go` may come, and events may come, after these.
pub data Place : Type 0 where
  Begins : Place
  HasCredits : (credits : Both ℕ) → Place
  HasBudget : (credits : Both ℕ) (budget : ℕ) → Place
  HasPassing : (credits : Both ℕ) (passing : ℕ) → Place
  HasLongest : (credits : Both ℕ) (budget longest : ℕ) → Place
  HasTimeout : (settings : Settings) → Place
  HasUnits : (settings : Settings) → Place
  HasGone : (settings : Settings) (events : List Event) → Place

-- settings of no unit yet, of a controller with identifier 1 (profile)
abbrev pub limits : Both ℕ → ℕ → ℕ → ℕ → Settings
limits credits budget longest timeout = record {
  credits = credits.first;
  second = credits.second;
  budget = budget;
  longest = longest;
  timeout = timeout;
  id = 1;
  units = [];
}

-- units with the one of these fields
unfoldable pub more_units : List Shape → List (List ℕ) → Result (List Shape) Cause
more_units units fields = do
  unit ← unit_of fields
  one_more units unit

-- one more unit
unfoldable pub with_unit : Settings → List (List ℕ) → Result Place Cause
with_unit settings fields = do
  units ← more_units settings.units fields
  Ok (HasUnits (record settings { units = units }))

-- the end of the header (profile)
unfoldable pub gone : Settings → List (List ℕ) → Result Place Cause
gone settings fields = do
  f ← none fields
  all ← valid (configured settings)
  Ok (HasGone all [])

-- the units of the line of the first unit
unfoldable pub first_units : List (List ℕ) → Result (List Shape) Cause
first_units [] = Err causes.Word
first_units (word ∷ fields) = if bytes_eq word (codes "unit") then more_units [] fields else Err causes.Word

-- a line after a unit
unfoldable pub unit_or_go : Settings → List (List ℕ) → Result Place Cause
unit_or_go settings [] = Err causes.Word
unit_or_go settings (word ∷ fields) =
    if bytes_eq word (codes "unit") then with_unit settings fields else (
    if bytes_eq word (codes "go") then gone settings fields else Err causes.Word)

-- events that so many others came before: at most 1,000,000 in all (profile)
abbrev pub fitting : ℕ → List Event → Result (List Event) Cause
fitting count new = if nat_le (count + length new) 1000000 then Ok new else Err causes.Events

-- what the words of a line ask for, where so many events came before (profile)
abbrev pub asked_after : ℕ → List (List ℕ) → Result (List Event) Cause
asked_after count words = request words >>= fitting count

-- the number that these fields are, of 32 bits
abbrev pub only_number : List (List ℕ) → Result ℕ Cause
only_number fields = one fields >>= wide

-- where it leads
abbrev pub by_number : (ℕ → Place) → List (List ℕ) → Result Place Cause
by_number made fields = do
  value ← only_number fields
  Ok (made value)

-- the line of the credits (profile)
unfoldable pub credits : List (List ℕ) → Result Place Cause
credits [] = Err causes.Word
credits (word ∷ fields) =
    if bytes_eq word (codes "credits") then (credits_of fields >>= λ all. Ok (HasCredits all)) else Err causes.Word

-- the line of the budget, in blocks or in passes by the longest transfer (profile)
unfoldable pub limit : Both ℕ → List (List ℕ) → Result Place Cause
limit credits [] = Err causes.Word
limit credits (word ∷ fields) =
    if bytes_eq word (codes "budget") then by_number (HasBudget credits) fields else (
    if bytes_eq word (codes "passing") then by_number (HasPassing credits) fields else Err causes.Word)

-- where a line of these words leads (profile)
unfoldable pub next : Place → List (List ℕ) → Result Place Cause
next Begins words = credits words
next (HasCredits all) words = limit all words
next (HasBudget credits budget) words = do
  longest ← setting (codes "longest") 4294967295 words
  Ok (HasLongest credits budget longest)
next (HasPassing credits passing) words = do
  longest ← setting (codes "longest") 4294967295 words
  Ok (HasLongest credits (passing * longest) longest)
next (HasLongest credits budget longest) words = do
  timeout ← setting (codes "timeout") 65535 words
  Ok (HasTimeout (limits credits budget longest timeout))
next (HasTimeout settings) words = do
  units ← first_units words
  Ok (HasUnits (record settings { units = units }))
next (HasUnits settings) words = unit_or_go settings words
next (HasGone settings events) words = do
  new ← asked_after (length events) words
  Ok (HasGone settings (events ++ new))

-- a line without a word is skipped (profile)
abbrev pub next_unless_skipped : Place → List (List ℕ) → Result Place Cause
next_unless_skipped place [] = Ok place
next_unless_skipped place (word ∷ fields) = next place (word ∷ fields)

-- what the line of this number says: line 1,000,001 is one too many (profile)
abbrev pub said_at : ℕ → List ℕ → Result (List (List ℕ)) Cause
said_at number line = if nat_lt 1000000 number then Err causes.Lines else said line

-- where a line leads that so many lines stand before
unfoldable pub after_line : ℕ → Place → List ℕ → Result Place Cause
after_line before place line = said_at (before + 1) line >>= next_unless_skipped place

-- ---- the whole

-- where lines lead that so many stand before, all of them right
unfoldable pub after_lines : ℕ → Place → List (List ℕ) → Result Place Cause
after_lines before place [] = Ok place
after_lines before place (line ∷ rest) = after_line before place line >>= λ after. after_lines (before + 1) after rest

-- the bytes are a script of these settings and events (profile)
pub record Reads (bytes : List ℕ) (settings : Settings) (events : List Event) : Type 0 where
  pub small : length bytes ≤ 16777216
  pub right : after_lines 0 Begins (lines bytes) ≡ Ok (HasGone settings events)

-- the first line at fault: all lines before it are right, and this is its first cause where it stands (profile)
pub record IsAtFault (all : List (List ℕ)) (fault : ScriptFault) : Type 0 where
  pub before : List (List ℕ)
  pub line : List ℕ
  pub after : List (List ℕ)
  pub place : Place
  pub whole : all ≡ before ++ line ∷ after
  pub right : after_lines 0 Begins before ≡ Ok place
  pub wrong : after_line (length before) place line ≡ Err fault.cause
  pub number : fault.line ≡ length before + 1

-- the header isn't whole
abbrev pub IsInHeader : Place → Type 0
IsInHeader (HasGone settings events) = ⊥
IsInHeader place = Unit {0}

-- the script ends before `go`: all lines are right, and none of them is `go` (profile)
pub record HasNoGo (all : List (List ℕ)) (fault : ScriptFault) : Type 0 where
  pub place : Place
  pub right : after_lines 0 Begins all ≡ Ok place
  pub early : IsInHeader place
  pub cause : fault.cause ≡ causes.Header
  pub number : fault.line ≡ length all + 1

-- the first fault: its size first, then the first line at fault, and then that the header isn't whole (profile)
abbrev pub IsFault : List ℕ → ScriptFault → Type 0
IsFault bytes fault =
    ((16777216 < length bytes) × (fault ≡ record { line = 0; cause = causes.Size }))
    ⊎ ((length bytes ≤ 16777216) × (IsAtFault (lines bytes) fault ⊎ HasNoGo (lines bytes) fault))
