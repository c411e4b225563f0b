-- Which commands may start.
use Rattle.std.specs.Prelude.{ℕ, Bool, List, map}
use Rattle.mscp_drive.specs.declared.connection.Connection.{Connection}
use Rattle.mscp_queue.specs.Records.{Record}
use Rattle.mscp_queue.specs.Figures.{figures}
use Rattle.mscp_queue.specs.Why.{holders_of_name, is_nobody}
use Rattle.mscp_drive.specs.Settings.{Settings}
use Rattle.mscp_controller.specs.History.{Trace}
use Rattle.mscp_controller.specs.Commands.{connection, reference}
use Rattle.mscp_controller.specs.Passing.{startable}
use Rattle.mscp_queue.specs.declared.name.Name.{Name}
use Rattle.mscp_judge.specs.Naming.{}

-- the name of a command that a look tells
abbrev pub named : (Connection × ℕ × ℕ) → Name
named shown = record { connection = shown.0; reference = shown.1 }

-- nobody keeps the waiting command of this name back
abbrev pub is_open : ℕ → List Record → Name → Bool
is_open budget rs n = is_nobody (holders_of_name budget rs n)

-- the names of all that wait
abbrev pub names : ℕ → List Record → List Name
names budget rs = map named (figures budget rs)

-- the name of a command of a run
abbrev pub named_in : Trace → ℕ → Name
named_in t x = record { connection = connection t x; reference = reference t x }

-- the names of all that may start after a run, in the order in which they came
abbrev pub starts_in : Settings → Trace → List Name
starts_in c t = map (named_in t) (startable c t)
