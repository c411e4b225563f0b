-- Why a waiting command may not start.
use Rattle.std.specs.Prelude.{ℕ, ◌+◌, Bool, true, false, not, ◌||◌, nat_le, List, [], ◌∷◌, map, filter, Option, Some, None}
use Rattle.std.specs.List.{position, range_with_len}
use Rattle.mscp_queue.specs.declared.name.Name.{Name}
use Rattle.mscp_queue.specs.declared.why.Holder.{Holder}
use Rattle.mscp_queue.specs.Records.{Record, has_name, record_at, charge}
use Rattle.mscp_queue.specs.Views.{fences}

-- z would be passed by more blocks than the budget, if r started (profile)
abbrev pub is_overdrawn : ℕ → Record → Record → Bool
is_overdrawn budget r z = not (nat_le (z.passed + charge r) budget)

-- the earlier z keeps r back
abbrev pub keeps_back : ℕ → Record → Record → Bool
keeps_back budget r z = fences r z || is_overdrawn budget r z

-- what is told of an earlier z that keeps r back: its name, and in which of the two ways it does
abbrev pub holder_of : ℕ → Record → Record → Holder
holder_of budget r z =
    record {
      connection = z.connection;
      reference = z.command.reference;
      fences = fences r z;
      overdrawn = is_overdrawn budget r z;
    }

-- the places in front of the record at a place whose records keep it back
abbrev pub holder_places : ℕ → List Record → ℕ → ℕ → List ℕ
holder_places budget rs place count =
    filter (λ front. keeps_back budget (record_at rs place) (record_at rs front)) (range_with_len 0 count)

-- what is told of those among the first so many
abbrev pub holders_among : ℕ → List Record → ℕ → ℕ → List Holder
holders_among budget rs place count =
    map (λ front. holder_of budget (record_at rs place) (record_at rs front)) (holder_places budget rs place count)

-- what is told of all that keep the record at a place back, oldest first
abbrev pub holders_at : ℕ → List Record → ℕ → List Holder
holders_at budget rs place = holders_among budget rs place place

abbrev pub holders_at_place : ℕ → List Record → Option ℕ → List Holder
holders_at_place budget rs None = []
holders_at_place budget rs (Some place) = holders_at budget rs place

-- who keeps the waiting command of a name back, nobody where none waits of it
abbrev pub holders_of_name : ℕ → List Record → Name → List Holder
holders_of_name budget rs name = holders_at_place budget rs (position (has_name name) rs)

-- there is nobody in the list
abbrev pub is_nobody : List Holder → Bool
is_nobody [] = true
is_nobody (holder ∷ holders) = false
