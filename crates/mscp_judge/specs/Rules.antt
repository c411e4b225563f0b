-- Which rule a line of a log breaks.
use Rattle.std.specs.Prelude.{◌≡◌, ◌≢◌, ◌⊎◌, ℕ, Bool, true, false, ◌&&◌, ◌||◌, nat_le, nat_lt, drop, length, slice_range, take, if◌then◌else◌, List, [], ◌∷◌, codes, Option, Some}
use Rattle.std.specs.Str.{bytes_eq}
use Rattle.mscp_queue.specs.declared.name.Name.{Name}
use Rattle.mscp_queue.specs.declared.why.Holder.{Holder}
use Rattle.mscp_drive.specs.declared.event.Event.{Event}
use Rattle.mscp_drive.specs.Settings.{Settings}
use Rattle.mscp_controller.specs.History.{Trace}
use Rattle.mscp_controller.specs.Commands.{in_service, is_idle, is_waiting, name}
use Rattle.mscp_controller.specs.Headline.{EachWaiting}
use Rattle.mscp_controller.specs.Holders.{holders_of}
use Rattle.mscp_controller.specs.Passing.{is_startable}
use Rattle.mscp_reader.specs.Lexical.{words}
use Rattle.mscp_judge.specs.declared.rules.Rule.{Rule}
use Rattle.mscp_judge.specs.declared.rules.Rule.TheVariants as rules
use Rattle.mscp_judge.specs.Logs.{is_answer}
use Rattle.mscp_judge.specs.Naming.{name_in}

-- ---- a line where another one is due

-- bytes begin with a word
abbrev pub begins : List ℕ → List ℕ → Bool
begins bytes word =
    if nat_lt (length bytes) (length word) then false else bytes_eq (take (length word) bytes) word

-- a line without the word of the second connection
abbrev pub unnamed : List ℕ → List ℕ
unnamed line = if begins line (codes "second ") then drop 7 line else line

-- two lines have the same bytes from one place up to another
abbrev pub same_part : List ℕ → List ℕ → ℕ → ℕ → Bool
same_part right told from to =
    if nat_lt (length right) to || nat_lt (length told) to then false
    else bytes_eq (slice_range right from to) (slice_range told from to)

-- an end is that of a poll, by its endcode
abbrev pub is_poll : List ℕ → Bool
is_poll line = nat_le 20 (length line) && begins (drop 20 line) (codes "82")

-- of two ends all but the figure of a poll is the same, or the reference number alone, or not even that
abbrev pub end_rule : List ℕ → List ℕ → Rule
end_rule right told =
    if is_poll right && same_part right told 4 36 then rules.Figure else (
    if same_part right told 4 12 then rules.End else rules.Order)

-- the rule that is broken where this is due, without the word of the second connection, and that is told
abbrev pub answer_rule : List ℕ → List ℕ → Rule
answer_rule right told =
    if begins right (codes "serve") || begins right (codes "idle") then rules.Service else (
    if begins right (codes "figure") then rules.Figure else (
    if begins right (codes "end") || begins right (codes "none") then end_rule right told else rules.Message))

abbrev pub due_rule : List ℕ → List ℕ → Rule
due_rule right told = answer_rule (unnamed right) (unnamed told)

-- ---- a line where a step is to be answered

-- the line of these words says that a command was served, if it is of the first connection
abbrev pub is_first_service : List (List ℕ) → Bool
is_first_service [] = false
is_first_service (word ∷ rest) = bytes_eq word (codes "serve")

-- or if it is of either
abbrev pub is_service : List (List ℕ) → Bool
is_service [] = false
is_service (word ∷ rest) =
    if bytes_eq word (codes "second") then is_first_service rest else is_first_service (word ∷ rest)

-- after t no step serves the command of this name, for this reason, or none is named; or it may be served, and the line
-- says something else of it
abbrev pub IsStepRule : Settings → Trace → Option Name → Rule → Type 0
IsStepRule c t wanted (rules.InService other) =
    (x : ℕ) × (is_waiting t x ≡ true) × (in_service t x ≡ true) × (name t x ≡ other)
    × (wanted ≢ Some other)
IsStepRule c t wanted (rules.KeptBack holder) =
    (is_idle t ≡ true) × (n : Name) × (wanted ≡ Some n) × (rest : List Holder) × (holders_of c t n ≡ holder ∷ rest)
IsStepRule c t wanted rules.NotWaiting = (is_idle t ≡ true) × EachWaiting t (λ x. wanted ≢ Some (name t x))
IsStepRule c t wanted rules.Service =
    (y : ℕ) × (is_waiting t y ≡ true) × ((in_service t y ≡ true) ⊎ (is_startable c t y ≡ true))
    × (wanted ≡ Some (name t y))
IsStepRule c t wanted rule = ⊥

-- ---- any line

-- the rule that a line breaks after the run t, of whose answers this is due, and of whose events these aren't answered
pub record IsRule (c : Settings) (t : Trace) (due : List ℕ) (owed : List Event) (line : List ℕ) (rule : Rule) :
    Type 0 where
  pub asks : is_answer (words line) ≡ false → rule ≡ rules.Missing
  pub told : is_answer (words line) ≡ true → due ≢ [] → rule ≡ due_rule due line
  pub unasked : is_answer (words line) ≡ true → due ≡ [] → owed ≡ [] → rule ≡ rules.Unasked
  pub idle : is_answer (words line) ≡ true → due ≡ [] → owed ≢ [] → is_service (words line) ≡ false
      → rule ≡ rules.Idle
  pub step : is_answer (words line) ≡ true → due ≡ [] → owed ≢ [] → is_service (words line) ≡ true
      → IsStepRule c t (name_in (words line)) rule
