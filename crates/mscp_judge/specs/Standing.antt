-- Where a judge stands after some lines of a log that a legal log begins with.
use Rattle.std.specs.Prelude.{◌≡◌, ◌⊎◌, ℕ, ◌+◌, ◌<◌, ◌≤◌, List, [], ◌∷◌, ◌++◌, length, drop, replicate, Option, Some}
use Rattle.mscp_drive.specs.declared.event.Event.{Event}
use Rattle.mscp_drive.specs.declared.event.Event.TheVariants as events
use Rattle.mscp_controller.specs.declared.entry.Entry.{Entry}
use Rattle.mscp_drive.specs.Settings.{IsValid, Settings, bound}
use Rattle.mscp_controller.specs.History.{Trace}
use Rattle.mscp_controller.specs.Holdings.{Answers, Holdings, fresh}
use Rattle.mscp_controller.specs.Legal.{IsLegal}
use Rattle.mscp_reader.specs.Lexical.{words}
use Rattle.mscp_script.specs.Text.{entry_lines}
use Rattle.mscp_judge.specs.declared.judge.Judge.{Judge}
use Rattle.mscp_queue.specs.declared.name.Name.{Name}
use Rattle.mscp_judge.specs.declared.naming.Wanted.{Wanted}
use Rattle.mscp_judge.specs.declared.totals.Totals.{Totals}
use Rattle.mscp_judge.specs.Logs.{Asked, Log, Mark, answers_in, events_in, told, transcript, whole}
use Rattle.mscp_judge.specs.Naming.{IsNamed, name_in, wanting}
use Rattle.mscp_judge.specs.Totals.{Adds, AreTotals}

-- ---- one event

-- what is held, where the command that is named is picked
abbrev pub with_picker : Holdings Wanted → Option Name → Holdings Wanted
with_picker h wanted = record h { picker = wanting wanted }

-- bytes that begin with a line
abbrev pub BeginsWith : List ℕ → List ℕ → Type 0
BeginsWith bytes line = (rest : List ℕ) × (bytes ≡ line ++ 10 ∷ rest)

-- each line that bytes begin with says that the command of this name was served
abbrev pub IsNamedAhead : List ℕ → Name → Type 0
IsNamedAhead bytes named = (line : List ℕ) → BeginsWith bytes line → Some named ≡ name_in (words line)

-- bytes that begin with a line of at most 128 bytes
abbrev pub HasShortLine : List ℕ → Type 0
HasShortLine bytes = (line : List ℕ) × BeginsWith bytes line × (length line ≤ 128)

-- the line that bytes begin with, or nothing where each line that they begin with is longer
abbrev pub IsFirstLine : List ℕ → List ℕ → Type 0
IsFirstLine bytes line =
    ((line ≡ []) × ((other : List ℕ) → BeginsWith bytes other → 128 < length other)) ⊎ BeginsWith bytes line

-- bytes end with a line feed, or there are none
abbrev pub EndsLine : List ℕ → Type 0
EndsLine bytes = (bytes ≡ []) ⊎ ((front : List ℕ) × (bytes ≡ front ++ 10 ∷ []))

-- what is answered and wasn't told yet
abbrev pub due : {A : Type 0} → Judge A → List ℕ
due judge = drop judge.told judge.reporter.lines

-- the steps that aren't answered yet
abbrev pub owed : {A : Type 0} → Judge A → List Event
owed judge = replicate judge.owed (events.Step judge.block)

-- all is answered and told
pub record IsSettled {A : Type 0} (judge : Judge A) : Type 0 where
  pub told : due judge ≡ []
  pub answered : judge.owed ≡ 0

-- the totals that a judge holds
abbrev pub totals_of : {A : Type 0} → Settings → Judge A → Totals
totals_of c judge = record {
  moments = judge.reporter.count;
  steps = judge.reporter.steps;
  figure = judge.peaks.figure;
  bound = bound c;
  passed = judge.peaks.passed;
}

-- an event came, at which the command that is named was to start, if one is: what was answered is due, and nothing
-- else, and it is added to the totals
pub record Came {A : Type 0} (wanted : Option Name) (old new : Judge A) (event : Event) : Type 0 where
  pub entry : Entry
  pub answers : Answers (IsNamed wanted) (with_picker old.controller wanted) event entry new.controller
  pub due : due new ≡ entry_lines entry
  pub count : new.reporter.count ≡ old.reporter.count + 1
  pub adds : (c : Settings) → Adds new.controller entry (totals_of c old) (totals_of c new)

-- ---- a trace

-- these moments came to a controller, one after the other, each with a picker of its own
abbrev pub Led : Holdings Wanted → Trace → Holdings Wanted → Type 0
Led old [] new = new ≡ old
Led old (m ∷ ms) new =
    (wanted : Option Name) × (next : Holdings Wanted) × Answers (IsNamed wanted) (with_picker old wanted) m.0 m.1 next
    × Led next ms new

-- ---- the whole

-- what is made of the marks of a log, behind a first one that asks for nothing
abbrev pub marked : Log → List Mark
marked log = Asked [] ∷ log.marks

-- after these marks what is held is that of a trace: of the lines before the last event's, and of that one so far.
-- What is due of its answers wasn't told, and these events aren't answered. Each legal log that begins with the marks,
-- and then
-- with those ahead, has this trace, and goes on with these events
pub record Stood (c : Settings) (marks : List Mark) (h : Holdings Wanted) (due : List ℕ) (owed : List Event)
    (ahead : List Mark) : Type 0 where
  pub parts : List Trace
  pub now : Trace
  pub begun : Wanted
  pub valid : IsValid c
  pub led : Led (fresh c begun) (whole parts ++ now) h
  pub said : marks ++ told due ≡ transcript parts ++ Asked (events_in now ++ owed) ∷ told (answers_in now)
  pub ends : EndsLine due
  pub only : (others : List Trace) (more : List Mark) → IsLegal c (whole others)
      → marks ++ (ahead ++ more) ≡ transcript others
      → (next : Trace) × (rest : List Trace) × (events_in next ≡ owed) × (others ≡ parts ++ (now ++ next) ∷ rest)

-- its trace so far
abbrev pub run_of : {c : Settings} {marks : List Mark} {h : Holdings Wanted} {due : List ℕ} {owed : List Event}
    {ahead : List Mark} → Stood c marks h due owed ahead → Trace
run_of stood = whole stood.parts ++ stood.now

-- and these are the totals of that trace
pub record Counted (c : Settings) (marks : List Mark) (h : Holdings Wanted) (due : List ℕ) (owed : List Event)
    (ahead : List Mark) (totals : Totals) : Type 0 where
  pub stood : Stood c marks h due owed ahead
  pub are : AreTotals c (run_of stood) totals

-- the same, whatever other traces may be
pub record Held (c : Settings) (marks : List Mark) (h : Holdings Wanted) (due : List ℕ) (owed : List Event) :
    Type 0 where
  pub parts : List Trace
  pub now : Trace
  pub begun : Wanted
  pub valid : IsValid c
  pub led : Led (fresh c begun) (whole parts ++ now) h
  pub said : marks ++ told due ≡ transcript parts ++ Asked (events_in now ++ owed) ∷ told (answers_in now)

-- a judge holds so after these lines of a log
abbrev pub IsHeld : {A : Type 0} → Settings → Log → Judge A → Type 0
IsHeld c log judge = Held c (marked log) judge.controller (due judge) (owed judge)

-- a judge stands so after these lines of a log
pub record Stands {A : Type 0} (c : Settings) (log : Log) (judge : Judge A) : Type 0 where
  pub counted : Counted c (marked log) judge.controller (due judge) (owed judge) [] (totals_of c judge)
  pub count : length log.events ≡ judge.reporter.count + judge.owed
