-- How long a command may have to wait: no bound under that of the configuration would be true.
use Rattle.std.specs.Prelude.{◌≡◌, ℕ, ◌+◌, ◌<◌, ◌≤◌, ◌^◌, Bool, true, false, ◌&&◌, nat_le, [], ◌∷◌, ◌++◌, length, take, Option, Some, None, Contains}
use Rattle.mscp_drive.specs.Shape.{Shape}
use Rattle.mscp_drive.specs.Settings.{Settings, IsValid, bound, room, unit_found}
use Rattle.mscp_controller.specs.History.{Moment, Trace, is_step}
use Rattle.mscp_controller.specs.Commands.{steps_after, unit, waiting}
use Rattle.mscp_controller.specs.Figures.{figure}
use Rattle.mscp_controller.specs.Legal.{IsLegal}

-- the run ends with the step that ends a command of the unit of this number, which waited as long as the bound
-- (profile)
pub record WaitsTheBound (c : Settings) (number : ℕ) (t : Trace) : Type 0 where
  -- the run but for its last moment
  pub before : Trace
  -- its last moment
  pub last : Moment
  pub whole : t ≡ before ++ last ∷ []
  -- which is a step
  pub step : is_step last.0 ≡ true
  -- the command
  pub command : ℕ
  -- is of the unit
  pub of_unit : unit t command ≡ number
  -- it waits until the last moment
  pub waits : Contains (waiting before) command
  -- and no longer
  pub ends : Contains (waiting t) command → ⊥
  -- that is the bound-th step after it
  pub steps : steps_after t command ≡ bound c
  -- its figure is the bound when it has come, and from then on the bound less the steps since. So it falls by exactly
  -- one at each step, and never else
  pub figures : (i : ℕ) → command < i → i ≤ length t
      → figure c (take i t) command + steps_after (take i t) command ≡ bound c

-- the unit, if there is one, has the blocks of the longest transfer (profile)
abbrev pub has_longest : Settings → Option Shape → Bool
has_longest c None = false
has_longest c (Some s) = nat_le c.longest s.size

-- a command of the unit of this number can wait as long as the bound: the unit has the blocks of the longest transfer,
-- and there is room for another command, so that one that comes later can pass it (profile)
abbrev pub can_wait_the_bound : Settings → ℕ → Bool
can_wait_the_bound c number = nat_le 2 (room c) && has_longest c (unit_found c number)

-- such a run is written out: it isn't too long (profile)
abbrev pub is_shown : Settings → ℕ → Bool
is_shown c number = can_wait_the_bound c number && nat_le (bound c) 100000

-- the law: wherever another command can pass it and the unit has the blocks, a command waits as long as the bound in
-- some legal run, of whatever length. So the bound is the least that is true of all legal runs. Numbers
-- of units have 16 bits (profile)
abbrev pub TheBoundIsTheLeast : Type 0
TheBoundIsTheLeast =
    (c : Settings) (number : ℕ) → IsValid c → number < 2 ^ 16 → can_wait_the_bound c number ≡ true
    → (t : Trace) × IsLegal c t × WaitsTheBound c number t
