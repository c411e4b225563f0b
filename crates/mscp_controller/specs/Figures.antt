-- The figure of a command: how many steps it may still wait, at most.
use Rattle.std.specs.Prelude.{ℕ, ◌+◌, ◌-◌, cond, filter, find, sum_by, Option, Some, None}
use Rattle.mscp_queue.specs.declared.name.Name.{Name}
use Rattle.mscp_queue.specs.Names.{same_name}
use Rattle.mscp_drive.specs.Settings.{Settings}
use Rattle.mscp_controller.specs.History.{Trace}
use Rattle.mscp_controller.specs.Commands.{name, is_waiting, waiting, left, in_service, earlier, later}
use Rattle.mscp_controller.specs.Passing.{passed}

-- 0 where x doesn't wait, and its own steps alone where it is in service. Else also what is left of all
-- before it and of a later one in service, and what is left of the budget (profile)
unfoldable pub figure : Settings → Trace → ℕ → ℕ
figure c t x =
    cond (is_waiting t x)
    (cond (in_service t x) (left t x)
    (sum_by (left t) (earlier t x) + sum_by (left t) (filter (in_service t) (later t x))
    + (c.budget - passed t x) + left t x))
    0

-- the figure of a command, if there is one, else 0 (profile)
abbrev pub figure_found : Settings → Trace → Option ℕ → ℕ
figure_found c t None = 0
figure_found c t (Some x) = figure c t x

-- the figure of the waiting command of a name, 0 if there is none (profile)
unfoldable pub figure_of : Settings → Trace → Name → ℕ
figure_of c t n = figure_found c t (find (λ x. same_name (name t x) n) (waiting t))
