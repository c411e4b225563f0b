-- What may be answered after a run, and which runs are legal. No picker is named: any command that may
-- start may be the one that starts.
use Rattle.std.specs.Prelude.{◌≡◌, ℕ, ◌<◌, true, ◌||◌, nat_eq, if◌then◌else◌, [], length, map, take, slice_get, slice_index_or, List, Option, Some, None, option_map}
use Rattle.mscp_packet.specs.declared.end.End.{End}
use Rattle.mscp_packet.specs.Ends.{end_bytes}
use Rattle.mscp_drive.specs.declared.block.Block.{Block}
use Rattle.mscp_queue.specs.declared.report.Report.TheVariants as reports
use Rattle.mscp_drive.specs.declared.event.Event.{Event}
use Rattle.mscp_drive.specs.declared.event.Event.TheVariants as events
use Rattle.mscp_controller.specs.declared.entry.Entry.{Entry}
use Rattle.mscp_controller.specs.declared.entry.Entry.TheVariants as entries
use Rattle.mscp_drive.specs.Shape.{cylinder_of}
use Rattle.mscp_drive.specs.Heads.{distance}
use Rattle.mscp_queue.specs.declared.view.Choice.{Choice}
use Rattle.mscp_drive.specs.declared.connection.Connection.{Connection}
use Rattle.mscp_queue.specs.declared.name.Name.{Name}
use Rattle.mscp_packet.specs.Commands.{order_class}
use Rattle.mscp_drive.specs.Settings.{Settings, unit_shape}
use Rattle.mscp_queue.specs.Outcomes.{block_touched, goes_on}
use Rattle.mscp_controller.specs.History.{Trace, moment, Service, service_in, WhenStarted}
use Rattle.mscp_controller.specs.Commands.{connection, reference, name, service_name, unit, order, is_waiting, waiting, done, left, in_service}
use Rattle.mscp_controller.specs.Passing.{is_startable, startable}
use Rattle.mscp_controller.specs.Figures.{figure}
use Rattle.mscp_controller.specs.Units.{cost, is_online, head_cylinder}
use Rattle.mscp_controller.specs.Ends.{outcome}
use Rattle.mscp_controller.specs.Account.{untaken}
use Rattle.mscp_controller.specs.Credits.{arrival}

-- ---- one step

-- the block that a step of y touches (manual)
unfoldable pub block_of : Trace → ℕ → Option ℕ
block_of t y = block_touched (is_online t (unit t y)) (order t y) (done t y)

-- how far the head of a unit goes to this block, whichever way: nowhere if there is none (profile)
abbrev pub seek_to : Settings → Trace → ℕ → Option ℕ → ℕ
seek_to c t u None = 0
seek_to c t u (Some block) = distance (head_cylinder c t u) (cylinder_of (unit_shape c u) block)

-- the end that a step gives to y: none if it goes on (manual)
abbrev pub end_of : Settings → Trace → Block → ℕ → Option End
end_of c t k y = if goes_on (is_online t (unit t y)) (order t y) k (left t y) then None else Some (outcome c t k y)

-- the step serves y (manual, the limits of starts are the profile's)
pub record IsServed (c : Settings) (t : Trace) (k : Block) (s : Service) (y : ℕ) : Type 0 where
  -- y waits (manual)
  pub waits : is_waiting t y ≡ true
  -- it is in service, or it may start (manual)
  pub next : (in_service t y || is_startable c t y) ≡ true
  -- the block that is touched is its next one (manual)
  pub lbn : s.lbn ≡ block_of t y
  -- a start is its first step (profile)
  pub started : s.started ≡ nat_eq (done t y) 0
  -- the head goes from where it is to the cylinder of that block (profile)
  pub seek : s.seek ≡ seek_to c t (unit t y) (block_of t y)
  -- it ends unless it goes on (manual)
  pub ended : s.ended ≡ end_of c t k y
  -- it is named by its connection (manual)
  pub connection : s.connection ≡ connection t y
  -- and by its reference number (manual)
  pub reference : s.reference ≡ reference t y
  -- and by its unit (manual)
  pub unit : s.unit ≡ unit t y

-- the step serves some command (profile)
abbrev pub IsStep : Settings → Trace → Block → Option Service → Type 0
IsStep c t k None = ⊥
IsStep c t k (Some s) = (y : ℕ) × IsServed c t k s y

-- ---- answers

-- what a look tells of a command that waits: its connection, its reference number and its figure (profile)
abbrev pub shown : Settings → Trace → ℕ → (Connection × ℕ × ℕ)
shown c t x = (connection t x, reference t x, figure c t x)

-- after t, this may be answered to the event (manual)
abbrev pub IsRight : Settings → Trace → Event → Entry → Type 0
IsRight c t (events.Send via b) (entries.Sent other sent) = (other ≡ via) × (sent ≡ arrival c via t b.items)
IsRight c t (events.Step k) (entries.Stepped reports.Idle) = waiting t ≡ []
IsRight c t (events.Step k) (entries.Stepped report) = IsStep c t k (service_in (entries.Stepped report))
IsRight c t (events.Take via) (entries.Taken other end) =
    (other ≡ via) × (end ≡ option_map (λ e. record { items = end_bytes e }) (slice_get (untaken c via t) 0))
IsRight c t events.Look (entries.Looked list) = list.items ≡ map (shown c t) (waiting t)
IsRight c t event entry = ⊥

-- each answer is right after what came before it (manual)
abbrev pub IsLegal : Settings → Trace → Type 0
IsLegal c t = (i : ℕ) → i < length t → IsRight c (take i t) (moment t i).0 (moment t i).1

-- ---- picks

-- what a picker sees of a command that waits (profile)
abbrev pub choice : Settings → Trace → ℕ → Choice
choice c t y =
    record {
      connection = connection t y;
      reference = reference t y;
      unit = unit t y;
      class = order_class (order t y);
      cost = cost c t y;
    }

-- what it sees after t: the commands that may start, in the order in which they came (profile)
abbrev pub view : Settings → Trace → List Choice
view c t = map (choice c t) (startable c t)

-- the command of this name stands in the view at a place that the picker's relation allows (profile)
abbrev pub IsPick : Settings → (List Choice → ℕ → Type 0) → Trace → Name → Type 0
IsPick c picks t n =
    (place : ℕ) × (place < length (startable c t)) × (name t (slice_index_or (startable c t) place 0) ≡ n)
    × picks (view c t) place

-- each command that starts is one that the picker may pick, of those that may start then (profile)
abbrev pub IsPicked : Settings → (List Choice → ℕ → Type 0) → Trace → Type 0
IsPicked c picks t =
    (i : ℕ) → i < length t → WhenStarted (λ s. IsPick c picks (take i t) (service_name s)) (service_in (moment t i).1)
