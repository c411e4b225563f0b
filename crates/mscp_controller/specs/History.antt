-- A run as the list of its moments, and what is collected of it by positions.
use Rattle.std.specs.Prelude.{◌≡◌, ℕ, Bool, true, false, List, [], ◌∷◌, length, take, flat_map, slice_index_or, Option, Some, None, unwrap_or, Ok}
use Rattle.std.specs.List.{range_with_len}
use Rattle.mscp_packet.specs.declared.end.End.{End}
use Rattle.mscp_drive.specs.declared.block.Block.TheVariants.{Good}
use Rattle.mscp_drive.specs.declared.connection.Connection.{Connection}
use Rattle.mscp_drive.specs.declared.connection.Connection.TheVariants.{First}
use Rattle.mscp_queue.specs.Names.{same_connection}
use Rattle.mscp_queue.specs.declared.report.Report.TheVariants as reports
use Rattle.mscp_controller.specs.declared.entry.Sent.TheVariants as sents
use Rattle.mscp_drive.specs.declared.event.Event.{Event}
use Rattle.mscp_drive.specs.declared.event.Event.TheVariants as events
use Rattle.mscp_controller.specs.declared.entry.Entry.{Entry}
use Rattle.mscp_controller.specs.declared.entry.Entry.TheVariants as entries

-- an event and what was answered to it (profile)
abbrev pub Moment : Type 0
Moment = Event × Entry

-- the moments of a run, oldest first (profile)
abbrev pub Trace : Type 0
Trace = List Moment

-- the moment at a position. Past the end it is one that changes nothing (profile)
unfoldable pub moment : Trace → ℕ → Moment
moment t i = slice_index_or t i (events.Take First, entries.Taken First None)

-- the positions of a trace, in order (profile)
abbrev pub positions : Trace → List ℕ
positions t = range_with_len 0 (length t)

-- what `seen` says of each moment and of what came before it, in order (profile)
unfoldable pub collect : {X : Type 0} → (Trace → Moment → List X) → Trace → List X
collect seen t = flat_map (λ i. seen (take i t) (moment t i)) (positions t)

-- the last of a list, or else d (profile)
abbrev pub last_or : {X : Type 0} → List X → X → X
last_or [] default = default
last_or (x ∷ xs) default = last_or xs x

-- ---- what one moment says

-- the bytes of a message (manual)
abbrev pub sent_bytes : Event → List ℕ
sent_bytes (events.Send via b) = b.items
sent_bytes event = []

-- the connection whose host made the event, if one did (manual)
abbrev pub comes_by : Event → Option Connection
comes_by (events.Send via b) = Some via
comes_by (events.Take via) = Some via
comes_by event = None

-- the same, or the first, where no host made it
abbrev pub connection_of : Event → Connection
connection_of event = unwrap_or (comes_by event) First

-- the event is a step (profile)
abbrev pub is_step : Event → Bool
is_step (events.Step block) = true
is_step event = false

-- the event is a step whose block was good (profile)
abbrev pub is_good : Event → Bool
is_good (events.Step Good) = true
is_good event = false

-- a message was queued (manual)
abbrev pub queues : Entry → Bool
queues (entries.Sent via (Ok (sents.Queued reference))) = true
queues entry = false

-- a message of this connection was answered when it came (manual)
abbrev pub answers : Connection → Entry → Bool
answers via (entries.Sent other (Ok (sents.Answered reference aborted))) = same_connection other via
answers via entry = false

-- an end of this connection was taken (manual)
abbrev pub takes : Connection → Entry → Bool
takes via (entries.Taken other (Some b)) = same_connection other via
takes via entry = false

-- what is said of a step that served a command (profile)
pub record Service : Type 0 where
  pub connection : Connection
  pub reference : ℕ
  pub unit : ℕ
  pub lbn : Option ℕ
  pub started : Bool
  pub seek : ℕ
  pub ended : Option End

-- the same, if a step served a command (profile)
abbrev pub service_in : Entry → Option Service
service_in (entries.Stepped (reports.Served connection reference unit lbn started seek ended)) =
    Some (record {
      connection = connection;
      reference = reference;
      unit = unit;
      lbn = lbn;
      started = started;
      seek = seek;
      ended = ended;
    })
service_in entry = None

-- if a command starts, the start obeys R (profile)
abbrev pub WhenStarted : (Service → Type 0) → Option Service → Type 0
WhenStarted R None = Unit {0}
WhenStarted R (Some s) = s.started ≡ true → R s
