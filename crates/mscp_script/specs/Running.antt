-- What comes to a controller, event by event, and the report of what it answers.
use Rattle.std.specs.Prelude.{◌≡◌, ℕ, List, ◌++◌, length, Result, Ok, Err}
use Rattle.mscp_queue.specs.Pickers.{IsSweep}
use Rattle.mscp_drive.specs.declared.event.Event.{Event}
use Rattle.mscp_controller.specs.declared.entry.Entry.{Entry}
use Rattle.mscp_drive.specs.Settings.{Settings}
use Rattle.mscp_controller.specs.Holdings.{Answered, Answers, fresh}
use Rattle.mscp_script.specs.declared.running.Run.{Run}
use Rattle.mscp_script.specs.Text.{reported, with_entry}
use Rattle.mscp_reader.specs.Outcome.{Fails}
use Rattle.mscp_script.specs.Simulated.{IsReportOf}
use Rattle.mscp_reader.specs.declared.fault.ScriptFault.{ScriptFault}
use Rattle.mscp_reader.specs.declared.fault.ReadFault.{ReadFault}

-- an event came: the controller answered an entry, which is reported
pub record Ran {A : Type 0} (old new : Run A) (event : Event) : Type 0 where
  pub entry : Entry
  pub answers : Answers IsSweep old.controller event entry new.controller
  pub report_is : new.reporter ≡ with_entry old.reporter entry

-- so far these events came to a new controller, one after the other, and what it answered is reported
pub record Runs {A : Type 0} (c : Settings) (events : List Event) (run : Run A) : Type 0 where
  pub begun : Run A
  pub new : begun.controller ≡ fresh c begun.controller.picker
  pub entries : List Entry
  pub answered : Answered IsSweep begun.controller events entries run.controller
  pub report_is : run.reporter ≡ reported entries
  pub count : run.reporter.count ≡ length events

-- these events came between them, whatever came before
abbrev pub Meets : {A : Type 0} → Run A → Run A → List Event → Type 0
Meets old new events = (c : Settings) (es : List Event) → Runs c es old → Runs c (es ++ events) new

-- what the definition says is the events that came, or this fault, unless memory ran out
abbrev pub RunsTo : {A : Type 0}
    → Settings → Result (Unit {0}) ReadFault → Run A → Result (Settings × List Event) ScriptFault → Type 0
RunsTo c (Ok done) run told = (events : List Event) × Runs c events run × (told ≡ Ok (c, events))
RunsTo c (Err fault) run told = Fails fault told

-- what was returned, seen by view, is the report of what the definition says, or this fault, unless memory ran out
abbrev pub TellsReport : {X : Type 0}
    → (X → List ℕ) → Result X ReadFault → Result (Settings × List Event) ScriptFault → Type 0
TellsReport view (Ok report) told =
    (c : Settings) × (events : List Event) × (told ≡ Ok (c, events)) × IsReportOf c events (view report)
TellsReport view (Err fault) told = Fails fault told
