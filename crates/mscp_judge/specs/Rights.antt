-- Which line is right next.
use Rattle.std.specs.Prelude.{◌≡◌, ◌≢◌, ◌⊎◌, ℕ, ◌≤◌, true, List, [], ◌∷◌, codes, length, Option, Some, None}
use Rattle.std.specs.List.{list_all}
use Rattle.mscp_drive.specs.declared.block.Block.{Block}
use Rattle.mscp_drive.specs.declared.event.Event.{Event}
use Rattle.mscp_drive.specs.declared.event.Event.TheVariants as events
use Rattle.mscp_drive.specs.Settings.{Settings}
use Rattle.mscp_queue.specs.declared.report.Report.{Report}
use Rattle.mscp_queue.specs.declared.report.Report.TheVariants.{Served}
use Rattle.mscp_controller.specs.History.{Service, Trace}
use Rattle.mscp_controller.specs.Commands.{in_service, is_waiting, name, waiting}
use Rattle.mscp_controller.specs.Passing.{is_startable, startable}
use Rattle.mscp_controller.specs.Holdings.{Holdings}
use Rattle.mscp_controller.specs.Legal.{IsServed}
use Rattle.mscp_text.specs.Lines.{line}
use Rattle.mscp_reader.specs.Lexical.{is_printed}
use Rattle.mscp_script.specs.Text.{step_line}
use Rattle.mscp_judge.specs.declared.judge.Judge.{Judge}
use Rattle.mscp_queue.specs.declared.name.Name.{Name}
use Rattle.mscp_judge.specs.declared.naming.Wanted.{Wanted}
use Rattle.mscp_judge.specs.Logs.{IsRightThere, Log}
use Rattle.mscp_judge.specs.Naming.{}
use Rattle.mscp_judge.specs.Standing.{IsFirstLine, IsHeld, Stands, Stood, due, marked, owed, run_of}

-- ---- a step

-- the report of a service
abbrev pub report_in : Service → Report
report_in s = Served s.connection s.reference s.unit s.lbn s.started s.seek s.ended

-- the line says that a step with this block serves x after t, as such a step does
pub record IsServiceLine (c : Settings) (t : Trace) (k : Block) (x : ℕ) (text : List ℕ) : Type 0 where
  pub service : Service
  pub serves : IsServed c t k service x
  pub says : line text ≡ step_line (report_in service)

-- the line that is right of a step with this block after t, where a line names this
pub record IsStepLine (c : Settings) (t : Trace) (k : Block) (wanted : Option Name) (text : List ℕ) : Type 0 where
  -- if nothing waits, the step is idle
  pub idle : waiting t ≡ [] → text ≡ codes "idle"
  -- a command in service is served
  pub served : (x : ℕ) → is_waiting t x ≡ true → in_service t x ≡ true → IsServiceLine c t k x text
  -- the command that is named starts, if it may
  pub named : (x : ℕ) → is_waiting t x ≡ true → is_startable c t x ≡ true → wanted ≡ Some (name t x)
      → IsServiceLine c t k x text
  -- and if none that may is named, the oldest that may
  pub oldest : (x : ℕ) (later : List ℕ) → startable c t ≡ x ∷ later
      → ((y : ℕ) → is_waiting t y ≡ true → is_startable c t y ≡ true → wanted ≢ Some (name t y))
      → IsServiceLine c t k x text

-- ---- any line

-- the line that is right behind these lines of a log, in place of one that names this. Each legal log that begins so
-- begins with one run
pub record IsRightNext (c : Settings) (log : Log) (wanted : Option Name) (right : List ℕ) : Type 0 where
  -- a legal log goes on with it, or with none
  pub there : IsRightThere c log right
  pub h : Holdings Wanted
  pub due : List ℕ
  pub owed : List Event
  pub stood : Stood c (marked log) h due owed []
  -- of what is due it is the first line
  pub due_is : due ≢ [] → IsFirstLine due right
  -- where a step is to be answered it is the line of that
  pub step_is : (k : Block) (later : List Event) → due ≡ [] → owed ≡ events.Step k ∷ later
      → IsStepLine c (run_of stood) k wanted right
  -- and where all is answered there is none
  pub none_is : due ≡ [] → owed ≡ [] → right ≡ []

-- ---- what is kept

-- a judge stood so after these lines, and answered a step since then, for a line that names this
pub record HasStepped {A : Type 0} (c : Settings) (log : Log) (wanted : Option Name) (judge : Judge A) : Type 0 where
  pub h : Holdings Wanted
  pub k : Block
  pub later : List Event
  pub stood : Stood c (marked log) h [] (events.Step k ∷ later) []
  pub text : List ℕ
  pub due_is : due judge ≡ line text
  pub printed : list_all is_printed text ≡ true
  pub short : length text ≤ 128
  pub line_is : IsStepLine c (run_of stood) k wanted text

-- a judge stands so after these lines, and where a step is to be answered none is named
pub record IsUnstepped {A : Type 0} (c : Settings) (log : Log) (wanted : Option Name) (judge : Judge A) : Type 0 where
  pub stands : Stands c log judge
  pub none : due judge ≡ [] → owed judge ≢ [] → wanted ≡ None

-- a judge holds so after these lines of a log, whether or not it answered a step for a line that names this
abbrev pub IsOpen : {A : Type 0} → Settings → Log → Option Name → Judge A → Type 0
IsOpen c log wanted judge = IsHeld c log judge × (IsUnstepped c log wanted judge ⊎ HasStepped c log wanted judge)
