-- What a log is, and when it is legal. A log is a script in which each event's line is followed by the lines that were
-- answered to its events.
use Rattle.std.specs.Prelude.{◌≡◌, ◌⊎◌, ℕ, ◌+◌, ◌≤◌, ◌||◌, Bool, true, false, if◌then◌else◌, List, [], ◌∷◌, ◌++◌, map, codes, length, Result, Ok}
use Rattle.std.specs.List.{AllByRecursion, flat_map, list_all}
use Rattle.std.specs.Str.{bytes_eq}
use Rattle.mscp_drive.specs.declared.event.Event.{Event}
use Rattle.mscp_drive.specs.Settings.{Settings}
use Rattle.mscp_controller.specs.History.{Trace}
use Rattle.mscp_controller.specs.Legal.{IsLegal}
use Rattle.mscp_packet.specs.Steps.{◌>>=◌}
use Rattle.mscp_text.specs.Lines.{line}
use Rattle.mscp_reader.specs.Lexical.{is_printed, said, words}
use Rattle.mscp_reader.specs.Grammar.{asked_after, said_at}
use Rattle.mscp_reader.specs.declared.fault.Cause.{Cause}
use Rattle.mscp_script.specs.Text.{entry_lines}

-- ---- marks

-- what a log says, in order: a line asked for these events, or this byte was told of an answer
pub data Mark : Type 0 where
  Asked : List Event → Mark
  Told : ℕ → Mark

-- the marks of bytes that were told
abbrev pub told : List ℕ → List Mark
told bytes = map (λ b. Told b) bytes

-- the events of a trace
abbrev pub events_in : Trace → List Event
events_in t = map (λ m. m.0) t

-- the lines that a report has of a trace
abbrev pub answers_in : Trace → List ℕ
answers_in t = flat_map (λ m. entry_lines m.1) t

-- the marks of a line that asked for the events of these moments, and of their answers
abbrev pub written : Trace → List Mark
written t = Asked (events_in t) ∷ told (answers_in t)

-- the same of a line after the other
abbrev pub transcript : List Trace → List Mark
transcript parts = flat_map written parts

-- the trace of which these are the parts
abbrev pub whole : List Trace → Trace
whole parts = flat_map (λ p. p) parts

-- ---- the law

-- there is a legal trace of the events that were asked for, line by line, and what was told is the text of it
abbrev pub IsLegalLog : Settings → List Mark → Type 0
IsLegalLog c marks = (parts : List Trace) × IsLegal c (whole parts) × (marks ≡ transcript parts)

-- a legal log begins so
abbrev pub MayGoOn : Settings → List Mark → Type 0
MayGoOn c marks = (more : List Mark) × IsLegalLog c (marks ++ more)

-- ---- what lines say

-- a line of a report begins so, if it is of the first connection. A line of totals is none
abbrev pub is_answer_word : List ℕ → Bool
is_answer_word word =
    bytes_eq word (codes "queued") || bytes_eq word (codes "answered") || bytes_eq word (codes "refused")
    || bytes_eq word (codes "serve") || bytes_eq word (codes "idle") || bytes_eq word (codes "end")
    || bytes_eq word (codes "none") || bytes_eq word (codes "figure")

-- and behind the word `second`
abbrev pub is_second_answer : List (List ℕ) → Bool
is_second_answer [] = false
is_second_answer (word ∷ rest) = is_answer_word word

-- the line of these words is an answer
abbrev pub is_answer : List (List ℕ) → Bool
is_answer [] = false
is_answer (word ∷ rest) = if bytes_eq word (codes "second") then is_second_answer rest else is_answer_word word

-- a line that is an answer, wherever it stands
pub record IsAnswerLine (bytes : List ℕ) : Type 0 where
  pub printed : list_all is_printed bytes ≡ true
  pub says : said bytes ≡ Ok (words bytes)
  pub answers : is_answer (words bytes) ≡ true

-- so many lines that are answers, each with a line feed
pub record AreAnswers (bytes : List ℕ) (count : ℕ) : Type 0 where
  pub all : List (List ℕ)
  pub whole : bytes ≡ flat_map line all
  pub many : length all ≡ count
  pub each : AllByRecursion IsAnswerLine all

-- what lines have said: the events so far, and the marks so far
pub record Log : Type 0 where
  pub events : List Event
  pub marks : List Mark

-- nothing was said
abbrev pub nothing : Log
nothing = record { events = []; marks = [] }

-- these bytes were told
abbrev pub telling : Log → List ℕ → Log
telling log bytes = record log { marks = log.marks ++ told bytes }

-- with no line of at most 128 printed bytes a legal log goes on
abbrev pub HasNoAnswer : Settings → Log → Type 0
HasNoAnswer c log =
    (text : List ℕ) → list_all is_printed text ≡ true → length text ≤ 128
    → ¬ (MayGoOn c (telling log (line text)).marks)

-- a legal log goes on with this line; or it is empty, since with none a legal log does
abbrev pub IsRightThere : Settings → Log → List ℕ → Type 0
IsRightThere c log text = ((text ≡ []) × HasNoAnswer c log) ⊎ MayGoOn c (telling log (line text)).marks

-- these events were asked for
abbrev pub asking : Log → List Event → Log
asking log new = record { events = log.events ++ new; marks = log.marks ++ Asked new ∷ [] }

-- the line of these words asks for events
abbrev pub after_request : Log → List (List ℕ) → Result Log Cause
after_request log words = do
  new ← asked_after (length log.events) words
  Ok (asking log new)

-- what is said after this line, which has these words
abbrev pub after_words : Log → List ℕ → List (List ℕ) → Result Log Cause
after_words log bytes [] = Ok log
after_words log bytes (word ∷ rest) =
    if is_answer (word ∷ rest) then Ok (telling log (line bytes)) else after_request log (word ∷ rest)

-- the same of a line of this number
unfoldable pub after_line : ℕ → Log → List ℕ → Result Log Cause
after_line number log bytes = said_at number bytes >>= after_words log bytes

-- what is said after lines that so many stand before
unfoldable pub after_lines : ℕ → Log → List (List ℕ) → Result Log Cause
after_lines before log [] = Ok log
after_lines before log (bytes ∷ rest) = after_line (before + 1) log bytes >>= λ next. after_lines (before + 1) next rest
