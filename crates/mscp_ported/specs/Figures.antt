-- What becomes of the figure of a command that waits: it falls by each step that is told, and never rises (manual, "GET
-- COMMAND STATUS", "Host Command Timeouts").
use Rattle.std.specs.Prelude.{◌≤◌, ◌<◌, ◌∷◌, ℕ, List}
use Rattle.mscp_drive.specs.Settings.{IsValid, Settings}
use Rattle.mscp_drive.specs.declared.connection.Connection.TheVariants.{First}
use Rattle.mscp_queue.specs.Figures.{figure_of_name}
use Rattle.mscp_queue.specs.Names.{name_on}
use Rattle.mscp_controller.specs.Calls.{AnsweredCalls, Call as Made}
use Rattle.mscp_controller.specs.Holdings.{Holdings, fresh}
use Rattle.mscp_port.specs.declared.hardware.Hardware.{Hardware}
use Rattle.mscp_port.specs.declared.port.Port.{Port}
use Rattle.mscp_port.specs.Calls.{IsMadeOf}
use Rattle.mscp_ported.specs.Fair.{TellsStep}
use Rattle.mscp_port.specs.Histories.{Answered, Call, Picking}
use Rattle.mscp_ported.specs.Talk.{AsksAlways}

-- the figure that a poll would be told now of the host's own command of this number: 0 if none waits
abbrev pub figure_on : {K : Type 0} → Port K → ℕ → ℕ
figure_on p number =
    figure_of_name p.controller.settings.budget p.controller.waiting (name_on First number)

-- by a call the figure of a command that waits doesn't rise, and where a step is told it falls: to 0 where the command
-- ends
pub record Lowers {K : Type 0} (call : Call) (old new : Port K) (number : ℕ) : Type 0 where
  pub never_rises : 1 ≤ figure_on old number → figure_on new number ≤ figure_on old number
  pub falls : 1 ≤ figure_on old number → TellsStep call old → figure_on new number < figure_on old number

-- the law of figures: a port was made over a controller, which had answered some calls before. Whoever calls the port,
-- and tells of actions only after they were wanted: each call lowers each figure, or leaves it
abbrev pub PortsLowerFigures : {K : Type 0} → Picking K → K → Type 0
PortsLowerFigures {K} picks picker =
    (c : Settings) (before : List Made) (controller : Holdings K) (hardware : Hardware) (credits : ℕ)
    (start p : Port K) (call : Call) (calls : List Call) → IsValid c
    → AnsweredCalls (picks picker) (fresh c picker) before controller → IsMadeOf hardware credits controller start
    → AsksAlways (call ∷ calls) → (a : Answered picks start (call ∷ calls) p) → (number : ℕ)
    → Lowers call a.0 p number
