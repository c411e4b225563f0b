-- What a controller holds, and how each event changes it. Its queue is a list of records in order of arrival, each
-- connection has a list of ends, and each unit has a drive.
use Rattle.std.specs.Prelude.{◌≡◌, ℕ, ◌+◌, ◌-◌, true, false, filter, find, if◌then◌else◌, List, [], ◌∷◌, ◌++◌, length, map, drop, slice_get, Option, Some, None, option_map, option_to_list, Result, Ok, Err}
use Rattle.arrayvec.specs.ArrayVec.{ArrayVec}
use Rattle.mscp_packet.specs.declared.command.Order.{Order}
use Rattle.mscp_packet.specs.declared.command.Order.TheVariants as orders
use Rattle.mscp_packet.specs.declared.command.Command.{Command}
use Rattle.mscp_packet.specs.declared.end.End.{End}
use Rattle.mscp_packet.specs.Commands.{command_of}
use Rattle.mscp_packet.specs.Ends.{end_bytes}
use Rattle.mscp_drive.specs.declared.block.Block.{Block}
use Rattle.mscp_drive.specs.declared.connection.Connection.{Connection}
use Rattle.mscp_drive.specs.declared.connection.Connection.TheVariants.{First, Second}
use Rattle.mscp_queue.specs.declared.name.Name.{Name}
use Rattle.mscp_queue.specs.declared.report.Report.{Report}
use Rattle.mscp_queue.specs.declared.report.Report.TheVariants.{Idle, Served}
use Rattle.mscp_queue.specs.declared.drive.Drive.{Drive}
use Rattle.mscp_queue.specs.declared.upcoming.Upcoming.{Upcoming}
use Rattle.mscp_queue.specs.declared.view.Choice.{Choice}
use Rattle.mscp_queue.specs.Drives.{drive_of, fresh_drive}
use Rattle.mscp_queue.specs.Records.{Record, aborted_record, fresh_record, has_name, without}
use Rattle.mscp_queue.specs.Names.{name_on, same_connection}
use Rattle.mscp_queue.specs.Figures.{figure_of_name, figures}
use Rattle.mscp_queue.specs.Lines.{Begins, Line, Serves}
use Rattle.mscp_queue.specs.Serving.{begun_without, is_begun, upcoming_begun}
use Rattle.mscp_controller.specs.declared.entry.SendFault.{SendFault}
use Rattle.mscp_controller.specs.declared.entry.NotBegun.{NotBegun}
use Rattle.mscp_controller.specs.declared.entry.Sent.{Sent}
use Rattle.mscp_controller.specs.declared.entry.Sent.TheVariants as sents
use Rattle.mscp_drive.specs.declared.event.Event.{Event}
use Rattle.mscp_drive.specs.declared.event.Event.TheVariants as events
use Rattle.mscp_controller.specs.declared.entry.Entry.{Entry}
use Rattle.mscp_controller.specs.declared.entry.Entry.TheVariants as entries
use Rattle.mscp_drive.specs.Settings.{Settings, credits_of, room}
use Rattle.mscp_drive.specs.Both.{Both, of, put}
use Rattle.mscp_controller.specs.Arrival.{refusal, is_queued}
use Rattle.mscp_controller.specs.Outcomes.{own_end}

-- the settings, the waiting commands, each connection's ends that weren't taken, all oldest first, the drives in the
-- order of their units, what was begun, if something was, and who picks
pub record Holdings (K : Type 0) : Type 0 where
  pub settings : Settings
  pub waiting : List Record
  pub untaken : Both (List End)
  pub drives : List Drive
  pub begun : Option Name
  pub picker : K

-- its queue
abbrev pub line_of : {K : Type 0} → Holdings K → Line K
line_of h = record {
  room = room h.settings;
  budget = h.settings.budget;
  longest = h.settings.longest;
  waiting = h.waiting;
  drives = h.drives;
  begun = h.begun;
  picker = h.picker;
}

-- a controller to which nothing came so far
abbrev pub fresh : {K : Type 0} → Settings → K → Holdings K
fresh c picker = record {
  settings = c;
  waiting = [];
  untaken = record { first = []; second = [] };
  drives = map fresh_drive c.units;
  begun = None;
  picker = picker;
}

-- ---- credits

-- the records of the commands that came by a connection
abbrev pub waiting_on : Connection → List Record → List Record
waiting_on via rs = filter (λ r. same_connection r.connection via) rs

-- the credits of a connection that are free (manual)
abbrev pub balance_of : {K : Type 0} → Connection → Holdings K → ℕ
balance_of via h = credits_of h.settings via - (length (waiting_on via h.waiting) + length (of via h.untaken))

-- the account of a connection: its credits that are free, one for each of its waiting commands, and one for each of its
-- untaken ends are all that it has (manual)
abbrev pub IsBalancedOn : {K : Type 0} → Connection → Holdings K → Type 0
IsBalancedOn via h =
    balance_of via h + length (waiting_on via h.waiting) + length (of via h.untaken) ≡ credits_of h.settings via

-- the accounts of both
pub record IsBalanced {K : Type 0} (h : Holdings K) : Type 0 where
  pub first : IsBalancedOn First h
  pub second : IsBalancedOn Second h

-- the reference numbers of records' commands
abbrev pub numbers : List Record → List ℕ
numbers rs = map (λ r. r.command.reference) rs

-- the reference numbers of ends
abbrev pub numbers_ended : List End → List ℕ
numbers_ended ends = map (λ e. e.reference) ends

-- the reference numbers of the commands of a connection that wait or whose ends weren't taken (manual)
abbrev pub outstanding_of : {K : Type 0} → Connection → Holdings K → List ℕ
outstanding_of via h = numbers (waiting_on via h.waiting) ++ numbers_ended (of via h.untaken)

-- ---- a message

-- the figure that an order of a connection asks for (manual)
abbrev pub figure_polled : Settings → Connection → List Record → Order → ℕ
figure_polled c via rs (orders.Status other) = figure_of_name c.budget rs (name_on via other)
figure_polled c via rs order = 0

-- the waiting command that an order of a connection names to be aborted, if there is one (manual)
abbrev pub record_aborted : Connection → List Record → Order → Option Record
record_aborted via rs (orders.Abort other) = find (has_name (name_on via other)) rs
record_aborted via rs order = None

-- what waits once that command was aborted: the others (manual)
abbrev pub unaborted : Connection → List Record → Order → List Record
unaborted via rs (orders.Abort other) = without (name_on via other) rs
unaborted via rs order = rs

-- what is begun then: nothing, where it was that command (profile)
abbrev pub begun_after : Connection → Option Name → Order → Option Name
begun_after via begun (orders.Abort other) = begun_without (name_on via other) begun
begun_after via begun order = begun

-- the reference number of the command that is aborted, if one is
abbrev pub reference_aborted : Connection → List Record → Order → Option ℕ
reference_aborted via rs order = option_map (λ r. r.command.reference) (record_aborted via rs order)

-- what a command becomes that isn't refused: it is queued, or answered at once (manual)
abbrev pub taken_as : {K : Type 0} → Connection → Holdings K → Command → Sent
taken_as via h command =
    if is_queued h.settings command then sents.Queued command.reference
    else sents.Answered command.reference (reference_aborted via h.waiting command.order)

-- what is held once this command waits
abbrev pub queued : {K : Type 0} → Connection → Holdings K → Command → Holdings K
queued via h command = record h { waiting = h.waiting ++ fresh_record via command ∷ [] }

-- the ends that weren't taken, once these went to a connection
abbrev pub more_ends : Connection → Both (List End) → List End → Both (List End)
more_ends via untaken ends = put via (of via untaken ++ ends) untaken

-- what is held once this end was made
abbrev pub with_end : {K : Type 0} → Connection → Holdings K → End → Holdings K
with_end via h end = record h { untaken = more_ends via h.untaken (end ∷ []) }

-- what is held once the command that an order names was aborted: its end is untaken. A pass that it made isn't given
-- back (manual, the latter is the profile's)
abbrev pub aborting : {K : Type 0} → Connection → Holdings K → Order → Holdings K
aborting via h order = record h {
  waiting = unaborted via h.waiting order;
  untaken = more_ends via h.untaken
      (option_to_list (option_map aborted_record (record_aborted via h.waiting order)));
  begun = begun_after via h.begun order;
}

-- the end of an answered command, with the figure that it asks for (manual)
abbrev pub answered_end : {K : Type 0} → Connection → Holdings K → Command → End
answered_end via h command =
    own_end h.settings (drive_of h.drives command.unit).online
    (figure_polled h.settings via h.waiting command.order) command

-- what is held after the command: the end of one that it aborts stands before its own (manual)
abbrev pub arrives : {K : Type 0} → Connection → Holdings K → Command → Holdings K
arrives via h command =
    if is_queued h.settings command then queued via h command
    else with_end via (aborting via h command.order) (answered_end via h command)

-- what is answered to a command: this fault, if there is one (manual)
abbrev pub sent_unless : {K : Type 0} → Connection → Holdings K → Command → Option SendFault → Result Sent SendFault
sent_unless via h command (Some fault) = Err fault
sent_unless via h command None = Ok (taken_as via h command)

-- what is held after it, if it is refused for this fault, or isn't
abbrev pub held_unless : {K : Type 0} → Connection → Holdings K → Command → Option SendFault → Holdings K
held_unless via h command (Some fault) = h
held_unless via h command None = arrives via h command

-- what is answered to a message of a connection (manual)
abbrev pub answer_to_message : {K : Type 0} → Connection → Holdings K → List ℕ → Result Sent SendFault
answer_to_message via h b =
    sent_unless via h (command_of b) (refusal (balance_of via h) (outstanding_of via h) b)

-- what is held after it. A refusal changes nothing (manual)
abbrev pub after_message : {K : Type 0} → Connection → Holdings K → List ℕ → Holdings K
after_message via h b = held_unless via h (command_of b) (refusal (balance_of via h) (outstanding_of via h) b)

-- ---- a step

-- the ends that a report brings for a connection: that of a command which came by it
abbrev pub ends_reported : Connection → Report → List End
ends_reported via Idle = []
ends_reported via (Served connection reference unit lbn started seek ended) =
    if same_connection connection via then option_to_list ended else []

-- the ends that weren't taken, once those of a report were made
abbrev pub ends_after : Both (List End) → Report → Both (List End)
ends_after untaken report = record {
  first = untaken.first ++ ends_reported First report;
  second = untaken.second ++ ends_reported Second report;
}

-- what a step with this block may report, and what is held after it: a relation, since any command that may start may
-- be the one that the picker picks (profile)
pub record Steps {K : Type 0} (picks : List Choice → ℕ → Type 0) (k : Block)
    (old : Holdings K) (report : Report) (new : Holdings K) : Type 0 where
  -- the queue serves a command, or is idle
  pub serves : Serves picks k (line_of old) report (line_of new)
  -- the end that it brings, if it does, is untaken
  pub ends : new.untaken ≡ ends_after old.untaken report
  -- and the settings stay
  pub settings : new.settings ≡ old.settings

-- ---- a begin

-- what a begin may tell of the next step, and what is held after it: it is kept what was begun, and nothing else
-- changes (profile)
pub record Foretells {K : Type 0} (picks : List Choice → ℕ → Type 0)
    (old : Holdings K) (upcoming : Option Upcoming) (new : Holdings K) : Type 0 where
  pub begins : Begins picks (line_of old) upcoming (line_of new)
  pub untaken : new.untaken ≡ old.untaken
  pub settings : new.settings ≡ old.settings

-- what a begin told of the step that is begun, if one is: what it began waits, and had no step since (profile)
abbrev pub begun_step : {K : Type 0} → Holdings K → Option Upcoming
begun_step h = upcoming_begun h.drives h.waiting h.begun

-- what a finish may answer, whose block had this outcome, and what is held after it: if the command of this name is
-- begun the finish is a step, and otherwise it fails and changes nothing (profile)
abbrev pub Finishes : {K : Type 0}
    → (List Choice → ℕ → Type 0) → Name → Block → Holdings K → Result Report NotBegun → Holdings K → Type 0
Finishes picks name k old (Ok report) new = (is_begun name old.begun ≡ true) × Steps picks k old report new
Finishes picks name k old (Err not_begun) new = (is_begun name old.begun ≡ false) × (new ≡ old)

-- ---- a take

-- the oldest end of a connection that wasn't taken, as bytes, if there is one (manual)
abbrev pub end_taken : {K : Type 0} → Connection → Holdings K → Option (ArrayVec ℕ)
end_taken via h = option_map (λ e. record { items = end_bytes e }) (slice_get (of via h.untaken) 0)

-- what is held after it was taken, if there is one (manual)
abbrev pub after_take : {K : Type 0} → Connection → Holdings K → Holdings K
after_take via h = record h { untaken = put via (drop 1 (of via h.untaken)) h.untaken }

-- ---- a run

-- what may be answered to an event, and what is held after it: a step alone leaves a choice
abbrev pub Answers : {K : Type 0} → (List Choice → ℕ → Type 0) → Holdings K → Event → Entry → Holdings K → Type 0
Answers picks old (events.Send via message) (entries.Sent other sent) new =
    (other ≡ via) × (sent ≡ answer_to_message via old message.items) × (new ≡ after_message via old message.items)
Answers picks old (events.Take via) (entries.Taken other end) new =
    (other ≡ via) × (end ≡ end_taken via old) × (new ≡ after_take via old)
Answers picks old (events.Step k) (entries.Stepped report) new = Steps picks k old report new
Answers picks old events.Look (entries.Looked list) new =
    (list.items ≡ figures old.settings.budget old.waiting) × (new ≡ old)
Answers picks old event entry new = ⊥

-- what may be answered to events, one after the other, and what is held after them
abbrev pub Answered : {K : Type 0}
    → (List Choice → ℕ → Type 0) → Holdings K → List Event → List Entry → Holdings K → Type 0
Answered picks old [] [] new = new ≡ old
Answered {K} picks old (event ∷ events) (entry ∷ entries) new =
    (next : Holdings K) × Answers picks old event entry next × Answered picks next events entries new
Answered picks old events entries new = ⊥
