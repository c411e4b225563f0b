-- What is promised of a run: of what a new controller answers to events, one after the other.
use Rattle.std.specs.Prelude.{ℕ, List, zip}
use Rattle.mscp_queue.specs.declared.view.Choice.{Choice}
use Rattle.mscp_drive.specs.declared.event.Event.{Event}
use Rattle.mscp_controller.specs.declared.entry.Entry.{Entry}
use Rattle.mscp_drive.specs.Settings.{Settings, IsValid}
use Rattle.mscp_controller.specs.Holdings.{Answered, Holdings, fresh}
use Rattle.mscp_controller.specs.Headline.{Headline}
use Rattle.mscp_controller.specs.Legal.{IsPicked}
use Rattle.mscp_controller.specs.Sweeping.{IsSweeping, Sweeps}

-- these entries are a run of these events, in which each start is one that these may pick
pub record IsRun (picks : List Choice → ℕ → Type 0) (c : Settings)
    (events : List Event) (entries : List Entry) : Type 0 where
  -- all that is promised of the run (profile)
  pub headline : Headline c events entries
  -- each start is one that the picker may pick (profile)
  pub picked : IsPicked c picks (zip events entries)
  -- where the picker sweeps, it is the one of least cost, and of those the oldest (profile)
  pub swept : Sweeps picks → IsSweeping c (zip events entries)

-- the law: what a new controller answers to events is a run of them, whoever hands them on (profile)
abbrev pub RunsKeepThePromise : {K : Type 0} → (List Choice → ℕ → Type 0) → K → Type 0
RunsKeepThePromise {K} picks picker =
    (c : Settings) (events : List Event) (entries : List Entry) (held : Holdings K) → IsValid c
    → Answered picks (fresh c picker) events entries held → IsRun picks c events entries
