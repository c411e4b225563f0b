-- The sweep: of the commands that may start, the one whose start costs the least, and of those the oldest.
use Rattle.std.specs.Prelude.{◌≡◌, ℕ, ◌<◌, Bool, not, ◌&&◌, ◌||◌, nat_eq, nat_lt, length, take, find, List, Option, Some, option_map}
use Rattle.std.specs.List.{list_all}
use Rattle.mscp_queue.specs.declared.view.Choice.{Choice}
use Rattle.mscp_queue.specs.declared.name.Name.{Name}
use Rattle.mscp_queue.specs.Pickers.{IsSweep}
use Rattle.mscp_drive.specs.Settings.{Settings}
use Rattle.mscp_controller.specs.History.{Trace, moment, service_in, WhenStarted}
use Rattle.mscp_controller.specs.Commands.{name, service_name}
use Rattle.mscp_controller.specs.Passing.{startable}
use Rattle.mscp_controller.specs.Units.{cost}

-- the sweep takes x before y: its start costs less, or as much and it came earlier (profile)
abbrev pub goes_before : Settings → Trace → ℕ → ℕ → Bool
goes_before c t x y = nat_lt (cost c t x) (cost c t y) || (nat_eq (cost c t x) (cost c t y) && nat_lt x y)

-- the command that the sweep starts: of those that may start, the one that no other goes before (profile)
unfoldable pub swept : Settings → Trace → Option ℕ
swept c t = find (λ y. list_all (λ x. not (goes_before c t x y)) (startable c t)) (startable c t)

-- the command of this name is the one that the sweep starts (profile)
abbrev pub IsSwept : Settings → Trace → Name → Type 0
IsSwept c t n = option_map (name t) (swept c t) ≡ Some n

-- each command that starts is the one that the sweep starts (profile)
abbrev pub IsSweeping : Settings → Trace → Type 0
IsSweeping c t =
    (i : ℕ) → i < length t → WhenStarted (λ s. IsSwept c (take i t) (service_name s)) (service_in (moment t i).1)

-- each place of a view that these may pick, the sweep may pick too (profile)
abbrev pub Sweeps : (List Choice → ℕ → Type 0) → Type 0
Sweeps picks = (view : List Choice) (place : ℕ) → place < length view → picks view place → IsSweep view place
