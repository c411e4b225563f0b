-- What a judge says of the lines of a log.
use Rattle.std.specs.Prelude.{◌≡◌, ◌≢◌, ℕ, ◌+◌, ◌<◌, ◌≤◌, List, [], ◌∷◌, ◌++◌, length, Bool, true, false, Option, Some, None, Result, Ok, Err}
use Rattle.mscp_controller.specs.Headline.{Promise}
use Rattle.mscp_controller.specs.Holdings.{Holdings}
use Rattle.mscp_drive.specs.Settings.{IsValid, Settings}
use Rattle.mscp_drive.specs.declared.event.Event.{Event}
use Rattle.mscp_reader.specs.Lexical.{lines, words}
use Rattle.mscp_reader.specs.Grammar.{Place, Begins, HasGone}
use Rattle.mscp_reader.specs.Outcome.{headed}
use Rattle.mscp_reader.specs.declared.fault.Cause.TheVariants as causes
use Rattle.mscp_reader.specs.declared.fault.ReadFault.{ReadFault}
use Rattle.mscp_reader.specs.declared.fault.ReadFault.TheVariants as faults
use Rattle.mscp_reader.specs.declared.fault.ScriptFault.{ScriptFault}
use Rattle.mscp_judge.specs.declared.judge.Judge.{Judge}
use Rattle.mscp_queue.specs.declared.name.Name.{Name}
use Rattle.mscp_judge.specs.declared.naming.Wanted.{Wanted}
use Rattle.mscp_judge.specs.declared.rules.Rule.{Rule}
use Rattle.mscp_judge.specs.declared.rules.Rule.TheVariants as rules
use Rattle.mscp_judge.specs.declared.totals.Totals.{Totals}
use Rattle.mscp_judge.specs.declared.judging.Verdict.{Verdict}
use Rattle.mscp_judge.specs.declared.judging.Verdict.TheVariants as verdicts
use Rattle.mscp_judge.specs.Logs.{IsLegalLog, Log, MayGoOn, after_line, after_lines, is_answer, nothing, told, whole}
use Rattle.mscp_judge.specs.Naming.{name_in}
use Rattle.mscp_judge.specs.Rights.{IsOpen, IsRightNext}
use Rattle.mscp_judge.specs.Rules.{IsRule}
use Rattle.mscp_judge.specs.Starts.{starts_in}
use Rattle.mscp_judge.specs.Standing.{Counted, IsHeld, Stands, Stood, due, marked, owed, run_of, totals_of}
use Rattle.mscp_judge.specs.Totals.{AreTotals}

-- ---- the verdict

-- all lines are right, and they are a legal log
pub record AreLegal (c : Settings) (before : ℕ) (all : List (List ℕ)) (totals : Totals) : Type 0 where
  pub log : Log
  pub read : after_lines before nothing all ≡ Ok log
  pub legal : IsLegalLog c log.marks
  -- so the promise of each legal trace is kept
  pub promise : Promise c (whole legal.0)
  -- and these are its totals
  pub totals_are : AreTotals c (whole legal.0) totals

-- a line breaks this rule where these lines stand before it: each legal log that begins so begins with one run, after
-- which it does
pub record IsBroken (c : Settings) (log : Log) (line : List ℕ) (rule : Rule) (starts : List Name) : Type 0 where
  pub h : Holdings Wanted
  pub due : List ℕ
  pub owed : List Event
  pub stood : Stood c (marked log) h due owed []
  pub rule_is : IsRule c (run_of stood) due owed line rule
  -- where a step is to be answered, and the line names a command that may not be served, these may start
  pub starts_are : is_answer (words line) ≡ true → due ≡ [] → owed ≢ [] → rule ≢ rules.Service → rule ≢ rules.Idle
      → starts ≡ starts_in c (run_of stood)

-- the line of this number is the first that no legal log has there: what stands before it is the beginning of one
pub record IsFirstWrong (c : Settings) (before : ℕ) (all : List (List ℕ)) (place : ℕ) (rule : Rule)
    (starts : List Name) (right : List ℕ) : Type 0 where
  pub front : List (List ℕ)
  pub line : List ℕ
  pub back : List (List ℕ)
  pub log : Log
  pub next : Log
  pub whole : all ≡ front ++ line ∷ back
  pub number : place ≡ before + length front + 1
  pub read : after_lines before nothing front ≡ Ok log
  pub opens : MayGoOn c log.marks
  pub says : after_line place log line ≡ Ok next
  pub wrong : ¬ (MayGoOn c next.marks)
  -- this is the rule that it breaks
  pub broken : IsBroken c log line rule starts
  -- and this would have been right there, if any line would
  pub right_is : IsRightNext c log (name_in (words line)) right

-- a legal log begins with all lines, and they aren't one: some answer is missing
pub record AreUnanswered (c : Settings) (before : ℕ) (all : List (List ℕ)) (right : List ℕ) : Type 0 where
  pub log : Log
  pub read : after_lines before nothing all ≡ Ok log
  pub opens : MayGoOn c log.marks
  pub wrong : ¬ (IsLegalLog c log.marks)
  -- and with this line it goes on, if it does with any
  pub right_is : IsRightNext c log None right

-- the line of the fault's number is no line of a log, for this cause, and what stands before it is the beginning of a
-- legal log
pub record IsAtFault (c : Settings) (before : ℕ) (all : List (List ℕ)) (fault : ScriptFault) : Type 0 where
  pub front : List (List ℕ)
  pub line : List ℕ
  pub back : List (List ℕ)
  pub log : Log
  pub whole : all ≡ front ++ line ∷ back
  pub number : fault.line ≡ before + length front + 1
  pub read : after_lines before nothing front ≡ Ok log
  pub opens : MayGoOn c log.marks
  pub wrong : after_line fault.line log line ≡ Err fault.cause

-- what is said of lines that so many stand before
abbrev pub Judges : Settings → ℕ → List (List ℕ) → Result Verdict ReadFault → Type 0
Judges c before all (Ok (verdicts.Legal totals)) = AreLegal c before all totals
Judges c before all (Ok (verdicts.Wrong number rule starts right)) =
    IsFirstWrong c before all number rule starts.items right.items
Judges c before all (Ok (verdicts.Unanswered right)) = AreUnanswered c before all right.items
Judges c before all (Err (faults.Script fault)) = IsAtFault c before all fault
Judges c before all (Err faults.OutOfMemory) = Unit {0}

-- ---- one line

-- a line that told this of an answer was told, or no legal log goes on so
abbrev pub IsTold : {A : Type 0} → Settings → Log → Log → Judge A → Bool → Type 0
IsTold c log next new true = Stands c next new
IsTold c log next new false = (¬ (MayGoOn c next.marks)) × IsHeld c log new

-- the same of a line that names this, where it breaks a rule or breaks none
abbrev pub Tells : {A : Type 0} → Settings → Log → Log → Option Name → Judge A → Option Rule → Type 0
Tells c log next wanted new None = IsTold c log next new true
Tells c log next wanted new (Some rule) = (¬ (MayGoOn c next.marks)) × IsOpen c log wanted new

-- the rule that a line breaks which comes to a judge, if it breaks one, and what may start there
abbrev pub Breaks : {A : Type 0} → Judge A → List ℕ → Option Rule → List Name → Type 0
Breaks judge line None starts = Unit {0}
Breaks judge line (Some rule) starts =
    (c : Settings) (log : Log) → Stands c log judge → IsBroken c log line rule starts

-- something is due, and each legal log that goes on with the line has this trace
pub record IsAhead {A : Type 0} (c : Settings) (log : Log) (line : List ℕ) (judge : Judge A) : Type 0 where
  pub counted : Counted c (marked log) judge.controller (due judge) (owed judge) (told (line ++ 10 ∷ []))
      (totals_of c judge)
  pub some : due judge ≢ []
  pub count : length log.events ≡ judge.reporter.count + judge.owed

-- what became of a line of this number
abbrev pub Hears : {A : Type 0}
    → Settings → ℕ → Log → List ℕ → Result (Option Rule) ReadFault → Judge A → Type 0
Hears c number log line (Ok broken) new =
    (next : Log) × (after_line number log line ≡ Ok next) × Tells c log next (name_in (words line)) new broken
Hears c number log line (Err (faults.Script fault)) new =
    (fault.line ≡ number) × (after_line number log line ≡ Err fault.cause)
Hears c number log line (Err faults.OutOfMemory) new = Unit {0}

-- lines were passed over, and these are left: a legal log has each of them there, and the judge stands behind them
pub record Passed {A : Type 0} (c : Settings) (before : ℕ) (log : Log) (old : List ℕ) (number : ℕ) (left : List ℕ)
    (judge : Judge A) : Type 0 where
  pub front : List (List ℕ)
  pub next : Log
  pub whole : lines old ≡ front ++ lines left
  pub count : number ≡ before + length front
  pub read : after_lines before log front ≡ Ok next
  pub stands : Stands c next judge

-- what is found of lines: what is said of them, or nothing where the rule that a wrong one breaks isn't wanted
abbrev pub Finds : {A : Type 0}
    → Settings → ℕ → List (List ℕ) → Bool → Result (Option Verdict) ReadFault → Judge A → Type 0
Finds c before all wanted (Ok (Some verdict)) judge = Judges c before all (Ok verdict)
Finds c before all wanted (Ok None) judge = (wanted ≡ false) × IsValid c × (judge.controller.settings ≡ c)
Finds c before all wanted (Err fault) judge = Judges c before all (Err fault)

-- ---- a whole log

-- what is said of a log, of whose header this was found: its fault, or what is said of the lines behind it
abbrev pub JudgesBehind : Result (Place × ℕ × List (List ℕ)) ScriptFault → Result Verdict ReadFault → Type 0
JudgesBehind (Err fault) result = result ≡ Err (faults.Script fault)
JudgesBehind (Ok (HasGone c events, before, behind)) result = Judges c before behind result
JudgesBehind (Ok (place, before, behind)) result = ⊥

-- what is said of bytes: that they are too many, or what is said of a log of these lines
pub record JudgesLog (bytes : List ℕ) (result : Result Verdict ReadFault) : Type 0 where
  pub large : 16777216 < length bytes → result ≡ Err (faults.Script (record { line = 0; cause = causes.Size }))
  pub small : length bytes ≤ 16777216 → JudgesBehind (headed 0 Begins (lines bytes)) result

-- ---- a legal one

-- the bytes are a log that a trace is legal of: a header, and lines that are legal under its configuration
pub record HasLegalTrace (bytes : List ℕ) : Type 0 where
  pub c : Settings
  pub events : List Event
  pub before : ℕ
  pub behind : List (List ℕ)
  pub log : Log
  pub small : length bytes ≤ 16777216
  pub header : headed 0 Begins (lines bytes) ≡ Ok (HasGone c events, before, behind)
  pub read : after_lines before nothing behind ≡ Ok log
  pub legal : IsLegalLog c log.marks

-- it is judged to be legal, unless memory runs out
abbrev pub IsLegalVerdict : Result Verdict ReadFault → Type 0
IsLegalVerdict (Ok (verdicts.Legal totals)) = Unit {0}
IsLegalVerdict (Err faults.OutOfMemory) = Unit {0}
IsLegalVerdict result = ⊥
