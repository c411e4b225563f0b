-- What may start, and what a picker sees of it.
use Rattle.std.specs.Prelude.{◌≡◌, ℕ, ◌+◌, ◌<◌, Bool, true, not, ◌&&◌, ◌||◌, nat_eq, nat_le, List, length, map, take, filter, slice_index_or}
use Rattle.std.specs.List.{list_all, range_with_len}
use Rattle.mscp_queue.specs.declared.drive.Drive.{Drive}
use Rattle.mscp_queue.specs.declared.view.Choice.{Choice}
use Rattle.mscp_queue.specs.declared.name.Name.{Name}
use Rattle.mscp_queue.specs.Names.{name_on}
use Rattle.mscp_packet.specs.Commands.{order_class}
use Rattle.mscp_queue.specs.Orders.{is_sequential, order_cost}
use Rattle.mscp_queue.specs.Records.{Record, drive_at, record_at, charge}

-- r has to stay behind z: both are of one unit, and one of them is sequential (manual, "Command Categories and
-- Execution Order")
abbrev pub fences : Record → Record → Bool
fences r z = nat_eq z.command.unit r.command.unit && (is_sequential z.command.order || is_sequential r.command.order)

-- the record stays behind none of those in front of it (manual, "Command Categories and Execution Order")
abbrev pub is_free : Record → List Record → Bool
is_free r front = list_all (λ z. not (fences r z)) front

-- each of those in front of the record keeps within the budget if it starts (profile)
abbrev pub is_affordable : ℕ → Record → List Record → Bool
is_affordable budget r front = list_all (λ z. nat_le (z.passed + charge r) budget) front

-- where nothing is in service, the record behind those in front of it may start (manual, the budget is the profile's)
abbrev pub is_open : ℕ → Record → List Record → Bool
is_open budget r front = is_free r front && is_affordable budget r front

-- the record at a place may start, where nothing is in service
abbrev pub is_open_at : ℕ → List Record → ℕ → Bool
is_open_at budget rs place = is_open budget (record_at rs place) (take place rs)

-- the places that may start, where nothing is in service, in order of arrival (profile)
abbrev pub open_places : ℕ → List Record → List ℕ
open_places budget rs = filter (is_open_at budget rs) (range_with_len 0 (length rs))

-- each may pass those in front of it
abbrev pub MayAllPass : ℕ → List Record → Type 0
MayAllPass budget rs =
    (place : ℕ) → place < length rs → is_affordable budget (record_at rs place) (take place rs) ≡ true

-- the name of a choice's command
abbrev pub choice_name : Choice → Name
choice_name choice = name_on choice.connection choice.reference

-- what a picker sees of a record whose unit's drive is this (profile)
abbrev pub choice_of : Drive → Record → Choice
choice_of d r = record {
  connection = r.connection;
  reference = r.command.reference;
  unit = r.command.unit;
  class = order_class r.command.order;
  cost = order_cost d.unit d.head r.command.order;
}

-- the same of the records at these places
abbrev pub choices_at : List Drive → List Record → List ℕ → List Choice
choices_at ds rs places = map (λ place. choice_of (drive_at ds rs place) (record_at rs place)) places

-- what a picker sees where nothing is in service: exactly the records that may start, in order of arrival (profile)
abbrev pub view_of : ℕ → List Drive → List Record → List Choice
view_of budget ds rs = choices_at ds rs (open_places budget rs)

-- the record at a place may be picked: it stands in the view, at a place that the picker's relation allows (profile)
abbrev pub IsPick : (List Choice → ℕ → Type 0) → ℕ → List Drive → List Record → ℕ → Type 0
IsPick picks budget ds rs place =
    (i : ℕ) × (i < length (open_places budget rs)) × (slice_index_or (open_places budget rs) i 0 ≡ place)
    × picks (view_of budget ds rs) i
