-- Who keeps a waiting command back: earlier commands that it has to stay behind, or that it may not pass.
use Rattle.std.specs.Prelude.{ℕ, ◌+◌, Bool, not, ◌||◌, nat_le, List, [], map, filter, find, Option, Some, None}
use Rattle.mscp_queue.specs.declared.name.Name.{Name}
use Rattle.mscp_queue.specs.declared.why.Holder.{Holder}
use Rattle.mscp_queue.specs.Names.{same_name}
use Rattle.mscp_drive.specs.Settings.{Settings}
use Rattle.mscp_controller.specs.History.{Trace}
use Rattle.mscp_controller.specs.Commands.{connection, earlier, name, reference, waiting}
use Rattle.mscp_controller.specs.Passing.{fences, passed, charge}

-- z would be passed by more blocks than the budget, if y started (profile)
abbrev pub is_overdrawn : Settings → Trace → ℕ → ℕ → Bool
is_overdrawn c t y z = not (nat_le (passed t z + charge t y) c.budget)

-- the earlier z keeps y back (manual, "Command Categories and Execution Order", the budget is the profile's)
abbrev pub keeps_back : Settings → Trace → ℕ → ℕ → Bool
keeps_back c t y z = fences t y z || is_overdrawn c t y z

-- what is told of an earlier z that keeps y back: its name, and in which of the two ways it does (profile)
abbrev pub holder : Settings → Trace → ℕ → ℕ → Holder
holder c t y z =
    record {
      connection = connection t z;
      reference = reference t z;
      fences = fences t y z;
      overdrawn = is_overdrawn c t y z;
    }

-- what is told of all that keep y back, oldest first (profile)
unfoldable pub holders : Settings → Trace → ℕ → List Holder
holders c t y = map (holder c t y) (filter (keeps_back c t y) (earlier t y))

-- of nobody, nobody
abbrev pub holders_found : Settings → Trace → Option ℕ → List Holder
holders_found c t None = []
holders_found c t (Some y) = holders c t y

-- the same of the waiting command of a name, nobody if there is none (profile)
unfoldable pub holders_of : Settings → Trace → Name → List Holder
holders_of c t n = holders_found c t (find (λ y. same_name (name t y) n) (waiting t))
