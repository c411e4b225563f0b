-- What is written of a log.
use Rattle.std.specs.Prelude.{◌≡◌, ℕ, ◌+◌, Bool, true, false, List, [], ◌++◌, codes, if◌then◌else◌, Option, option_map, Result, Ok, Err}
use Rattle.std.specs.List.{flat_map}
use Rattle.std.specs.Fmt.{decimal}
use Rattle.std.specs.Io.KnownBytes.{Appends}
use Rattle.mscp_reader.specs.declared.fault.ReadFault.{ReadFault}
use Rattle.mscp_reader.specs.declared.fault.ReadFault.TheVariants as scripts
use Rattle.mscp_script.specs.declared.reading.ReadAllFault.{ReadAllFault}
use Rattle.mscp_script.specs.declared.reading.ReadAllFault.TheVariants as readings
use Rattle.mscp_script.specs.Simulated.{IsGiven}
use Rattle.mscp_judge.specs.declared.judging.Verdict.{Verdict}
use Rattle.mscp_judge.specs.declared.judging.Verdict.TheVariants as verdicts
use Rattle.mscp_drive.specs.declared.connection.Connection.{Connection}
use Rattle.mscp_drive.specs.declared.connection.Connection.TheVariants.{First, Second}
use Rattle.mscp_queue.specs.declared.why.Holder.{Holder}
use Rattle.mscp_queue.specs.declared.name.Name.{Name}
use Rattle.mscp_judge.specs.declared.rules.Rule.{Rule}
use Rattle.mscp_judge.specs.declared.rules.Rule.TheVariants as rules
use Rattle.mscp_judge.specs.declared.totals.Totals.{Totals}
use Rattle.mscp_judge.specs.Judged.{JudgesLog}
use Rattle.mscpjudge.specs.declared.fault.Fault.{Fault}
use Rattle.mscpjudge.specs.declared.fault.Fault.TheVariants as faults
use Rattle.mscpjudge.specs.declared.judging.Outcome.{Outcome}
use Rattle.mscpjudge.specs.declared.judging.Outcome.TheVariants as outcomes

-- what a fault of the reading of all bytes is called
abbrev pub fault_of_reading : ReadAllFault → Fault
fault_of_reading readings.Read = faults.Read
fault_of_reading readings.OutOfMemory = faults.OutOfMemory

-- and a fault of the log
abbrev pub fault_of_log : ReadFault → Fault
fault_of_log (scripts.Script fault) = faults.Log fault
fault_of_log scripts.OutOfMemory = faults.OutOfMemory

-- how a log is judged by a verdict
abbrev pub outcome_of : Verdict → Outcome
outcome_of (verdicts.Legal totals) = outcomes.Legal
outcome_of (verdicts.Wrong line rule starts right) = outcomes.Wrong
outcome_of (verdicts.Unanswered right) = outcomes.Wrong

-- the rest of the line of the totals
abbrev pub peaks_text : Totals → List ℕ
peaks_text totals =
    codes " figure " ++ decimal totals.figure ++ codes " bound " ++ decimal totals.bound
    ++ codes " passed " ++ decimal totals.passed ++ codes "\n"

-- the lines of a log that is legal, and has these totals
abbrev pub legal_text : Totals → List ℕ
legal_text totals =
    codes "legal\nmoments " ++ decimal totals.moments ++ codes " steps " ++ decimal totals.steps
    ++ peaks_text totals

-- the line of what would have been right
abbrev pub right_text : List ℕ → List ℕ
right_text right = codes "right: " ++ right ++ codes "\n"

-- the name of a command. One of the first connection is its reference number alone
abbrev pub name_text : Connection → ℕ → List ℕ
name_text First reference = decimal reference
name_text Second reference = codes "second " ++ decimal reference

-- how an earlier command keeps one back
abbrev pub holder_text : Holder → List ℕ
holder_text holder =
    (if holder.fences then codes "fence of " else codes "passing limit of ")
    ++ name_text holder.connection holder.reference

-- which command is in service
abbrev pub served_text : Name → List ℕ
served_text named = codes "in service is " ++ name_text named.connection named.reference

-- the words of a rule
abbrev pub rule_text : Rule → List ℕ
-- it answers, and every event before it has its answer
rule_text rules.Unasked = codes "no event"
-- it asks for events, and some event before it has no answer
rule_text rules.Missing = codes "answer missing"
-- a message is queued, answered or refused, and the line says something else of it
rule_text rules.Message = codes "message"
-- the figure of a poll or a look is another, and nothing else of a poll is
rule_text rules.Figure = codes "figure"
-- another end is the oldest, or there is none, or there is one
rule_text rules.Order = codes "order of ends"
-- the oldest end has the line's reference number, and says something else
rule_text rules.End = codes "end"
-- a step is to be answered, and the line says `idle` or is none of a step
rule_text rules.Idle = codes "step"
-- it serves a command of which none waits, or names none, while none is in service
rule_text rules.NotWaiting = codes "not waiting"
rule_text (rules.InService named) = served_text named
rule_text (rules.KeptBack holder) = holder_text holder
-- it serves a command that may be served, and says something else of it
rule_text rules.Service = codes "service"

-- the lines of a line that isn't legal, for this rule
abbrev pub wrong_text : ℕ → Rule → List ℕ
wrong_text line rule =
    codes "line " ++ decimal line ++ codes ": not legal\nrule: " ++ rule_text rule ++ codes "\n"

-- where a step is to be answered, and the line names a command that may not be served, what may start is told
abbrev pub has_starts : Rule → Bool
has_starts rules.NotWaiting = true
has_starts (rules.KeptBack holder) = true
has_starts rule = false

-- a name behind a space
abbrev pub spaced_name : Name → List ℕ
spaced_name named = codes " " ++ name_text named.connection named.reference

-- the line of the commands that may start
abbrev pub starts_text : Rule → List Name → List ℕ
starts_text rule starts =
    if has_starts rule then codes "may start:" ++ flat_map spaced_name starts ++ codes "\n" else []

-- the line of a log that isn't whole
abbrev pub unanswered_text : List ℕ
unanswered_text = codes "end: not legal\n"

-- the lines that say a verdict
abbrev pub verdict_text : Verdict → List ℕ
verdict_text (verdicts.Legal totals) = legal_text totals
verdict_text (verdicts.Wrong line rule starts right) =
    wrong_text line rule ++ starts_text rule starts.items ++ right_text right.items
verdict_text (verdicts.Unanswered right) = unanswered_text ++ right_text right.items

-- where there is no fault it was written to once, and on a fault never. Nothing is said where the write failed
abbrev pub WritesOnce : Result Outcome Fault → Option ℕ → Option ℕ → Type 0
WritesOnce (Ok outcome) old new = new ≡ option_map (λ n. n + 1) old
WritesOnce (Err faults.Write) old new = Unit {0}
WritesOnce (Err fault) old new = new ≡ old

-- what is written is the verdict of the log that the reader gave. Nothing is written on a fault, and a fault of the log
-- is that of what the reader gave; nothing is said where the write failed
abbrev pub Says : Result Outcome Fault → Option (List ℕ) → Option (List ℕ) → Option (List ℕ) → Type 0
Says (Ok outcome) known old new =
    IsGiven known (λ log. (verdict : Verdict) × JudgesLog log (Ok verdict) × (outcome ≡ outcome_of verdict)
    × Appends old new (verdict_text verdict))
Says (Err faults.Write) known old new = Unit {0}
Says (Err (faults.Log fault)) known old new =
    (new ≡ old) × IsGiven known (λ log. JudgesLog log (Err (scripts.Script fault)))
Says (Err fault) known old new = new ≡ old
