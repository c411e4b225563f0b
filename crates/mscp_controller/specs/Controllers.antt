-- What is promised of a controller that somebody holds, from its making or its last reset on: a reset leaves it as new.
use Rattle.std.specs.Prelude.{◌≡◌, ℕ, true, List, map}
use Rattle.mscp_drive.specs.Shape.{Shape}
use Rattle.mscp_queue.specs.declared.drive.Drive.{Drive}
use Rattle.mscp_drive.specs.declared.connection.Connection.{Connection}
use Rattle.mscp_queue.specs.declared.name.Name.{Name}
use Rattle.mscp_queue.specs.declared.view.Choice.{Choice}
use Rattle.mscp_queue.specs.Figures.{figure_of_name}
use Rattle.mscp_queue.specs.Kept.{names}
use Rattle.mscp_queue.specs.Why.{holders_of_name, is_nobody}
use Rattle.mscp_drive.specs.Settings.{Settings, IsValid}
use Rattle.mscp_drive.specs.Both.{of}
use Rattle.mscp_controller.specs.Holdings.{Holdings, balance_of, fresh}
use Rattle.mscp_controller.specs.History.{Trace}
use Rattle.mscp_controller.specs.Commands.{is_idle, name, waiting}
use Rattle.mscp_controller.specs.Account.{untaken, balance}
use Rattle.mscp_controller.specs.Figures.{figure_of}
use Rattle.mscp_controller.specs.Holders.{holders, holders_of}
use Rattle.mscp_controller.specs.Passing.{is_startable}
use Rattle.mscp_controller.specs.Units.{head, is_online}
use Rattle.mscp_controller.specs.Legal.{IsLegal, IsPick}
use Rattle.mscp_controller.specs.Sweeping.{IsSwept, Sweeps}
use Rattle.mscp_controller.specs.Headline.{EachWaiting, Promise}
use Rattle.mscp_controller.specs.Calls.{AtEachCall, AnsweredCalls, Call, HoldsToBegun, IsRightCall, StartsChosen, history}

-- a unit with its state and its head after t (manual, heads are the profile's)
abbrev pub drive_now : Settings → Trace → Shape → Drive
drive_now c t u = record { unit = u; online = is_online t u.number; head = head c t u.number }

-- what is promised of a controller that answered so to these calls, and now holds this
pub record KeepsPromise {K : Type 0} (picks : List Choice → ℕ → Type 0) (c : Settings)
    (calls : List Call) (held : Holdings K) : Type 0 where
  -- each answer to an event, and each step that was finished, is right after what came before it (manual)
  pub legal : IsLegal c (history calls)
  -- and so all that a legal trace promises holds (profile)
  pub promise : Promise c (history calls)
  -- each begin tells what it may, and only what is begun is finished (profile)
  pub right : AtEachCall calls (IsRightCall c)
  -- what was begun stays so: it is what each begin tells and each step serves until it is served or aborted (profile)
  pub begun : AtEachCall calls HoldsToBegun
  -- each start, and each that a begin tells, is one that its picker may pick in the view at its begin, or at the step
  -- where nothing was begun (profile)
  pub picked : AtEachCall calls (StartsChosen (λ so_far. IsPick c picks (history so_far)))
  -- where the picker sweeps, each is the one of least cost in that view, and of those the oldest (profile)
  pub swept : Sweeps picks → AtEachCall calls (StartsChosen (λ so_far. IsSwept c (history so_far)))
  -- its settings are those that it was made with (profile)
  pub settings : held.settings ≡ c
  -- it holds the commands that wait after the history, and each connection's ends that weren't taken (manual)
  pub waiting : names held.waiting ≡ map (name (history calls)) (waiting (history calls))
  pub untaken : (via : Connection) → of via held.untaken ≡ untaken c via (history calls)
  -- the figure that it now tells of a name is that of the history (profile)
  pub figure : (name : Name) → figure_of_name c.budget held.waiting name ≡ figure_of c (history calls) name
  -- those that it now says keep the command of a name back are those of the history, and a waiting command that nobody
  -- keeps back is one that may start while nothing is in service, and no other is (profile)
  pub kept_back : (name : Name) → holders_of_name c.budget held.waiting name ≡ holders_of c (history calls) name
  pub unheld : EachWaiting (history calls) (λ x. is_idle (history calls) ≡ true
      → is_startable c (history calls) x ≡ is_nobody (holders c (history calls) x))
  -- its drives are the units with the states and heads of the history, the way that each head goes too (manual, heads
  -- are the profile's)
  pub drives : held.drives ≡ map (drive_now c (history calls)) c.units
  -- and the balance of each connection is that of the history (manual)
  pub balance : (via : Connection) → balance_of via held ≡ balance c via (history calls)

-- the law of a picker: every controller that it picks for keeps the promise, whoever calls it (profile)
abbrev pub ControllersKeepThePromise : {K : Type 0} → (List Choice → ℕ → Type 0) → K → Type 0
ControllersKeepThePromise {K} picks picker =
    (c : Settings) (calls : List Call) (held : Holdings K) → IsValid c → AnsweredCalls picks (fresh c picker) calls held
    → KeepsPromise picks c calls held
