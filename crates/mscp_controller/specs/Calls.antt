-- What somebody calls who holds a controller, and what it answers: events, begins and finishes. A reset is none of
-- them: it begins a new list.
use Rattle.std.specs.Prelude.{◌≡◌, ◌≢◌, ◌⊎◌, ℕ, ◌+◌, ◌<◌, Bool, true, false, ◌||◌, nat_eq, if◌then◌else◌, List, [], ◌∷◌, length, take, drop, flat_map, slice_index_or, Option, Some, None, IfSome, Result, Ok, Err}
use Rattle.std.specs.List.{list_any}
use Rattle.mscp_drive.specs.declared.block.Block.{Block}
use Rattle.mscp_drive.specs.declared.connection.Connection.{Connection}
use Rattle.mscp_queue.specs.declared.name.Name.{Name}
use Rattle.mscp_queue.specs.declared.report.Report.{Report}
use Rattle.mscp_queue.specs.declared.upcoming.Upcoming.{Upcoming}
use Rattle.mscp_queue.specs.declared.view.Choice.{Choice}
use Rattle.mscp_queue.specs.Names.{name_on}
use Rattle.mscp_drive.specs.declared.event.Event.{Event}
use Rattle.mscp_drive.specs.declared.event.Event.TheVariants as events
use Rattle.mscp_controller.specs.declared.entry.Entry.{Entry}
use Rattle.mscp_controller.specs.declared.entry.Entry.TheVariants as entries
use Rattle.mscp_controller.specs.declared.entry.NotBegun.{NotBegun}
use Rattle.mscp_drive.specs.Settings.{Settings}
use Rattle.mscp_controller.specs.History.{Moment, Trace, Service, is_step, service_in}
use Rattle.mscp_controller.specs.Commands.{command, connection, done, in_service, is_waiting, service_name, waiting, weight}
use Rattle.mscp_controller.specs.Passing.{is_startable}
use Rattle.mscp_controller.specs.Legal.{block_of}
use Rattle.mscp_controller.specs.Holdings.{Answers, Finishes, Foretells, Holdings}

-- a call, and what was answered to it (profile)
pub data Call : Type 0 where
  -- an event: a message, a take, a step or a look
  Plain : Event → Entry → Call
  -- a begin, and what it told of the next step
  Begin : Option Upcoming → Call
  -- the finish of the command of this reference number on this connection, whose block had this outcome
  Finish : Connection → ℕ → Block → Result Report NotBegun → Call

-- the moments of a call: a finish of what is begun is a step. A finish that fails is no moment, and nor is a begin
-- (profile)
abbrev pub moments_of : Call → List Moment
moments_of (Plain event entry) = (event, entry) ∷ []
moments_of (Begin upcoming) = []
moments_of (Finish via reference k (Ok report)) = (events.Step k, entries.Stepped report) ∷ []
moments_of (Finish via reference k (Err not_begun)) = []

-- the history of calls, oldest first (profile)
abbrev pub history : List Call → Trace
history calls = flat_map moments_of calls

-- the call at a position. Past the end it is one that tells nothing (profile)
abbrev pub call_at : List Call → ℕ → Call
call_at calls i = slice_index_or calls i (Begin None)

-- ---- what one call says

-- what a begin told of the next step
abbrev pub upcoming_in : Call → Option Upcoming
upcoming_in (Begin upcoming) = upcoming
upcoming_in call = None

-- what is said of a step that served a command, if the call was one
abbrev pub service_of : Call → Option Service
service_of (Plain event entry) = service_in entry
service_of (Begin upcoming) = None
service_of (Finish via reference k (Ok report)) = service_in (entries.Stepped report)
service_of (Finish via reference k (Err not_begun)) = None

-- the call was a step
abbrev pub steps : Call → Bool
steps call = list_any (λ m. is_step m.0) (moments_of call)

-- the name of the command that a service starts, if it starts one
abbrev pub start_of : Option Service → Option Name
start_of None = None
start_of (Some s) = if s.started then Some (service_name s) else None

-- the name of the command that is told of before its step
abbrev pub upcoming_name : Upcoming → Name
upcoming_name upcoming = name_on upcoming.connection upcoming.command.reference

-- the name of the command that a call starts, or of which it tells that the next step starts it
abbrev pub starts : Call → Option Name
starts (Begin None) = None
starts (Begin (Some upcoming)) = if nat_eq upcoming.done 0 then Some (upcoming_name upcoming) else None
starts call = start_of (service_of call)

-- ---- what was begun

-- what is told of y before its next step (profile)
abbrev pub foretold : Trace → ℕ → Upcoming
foretold t y = record {
  connection = connection t y;
  command = command t y;
  lbn = block_of t y;
  done = done t y;
  weight = weight t y;
}

-- after the calls y is begun, since the call at j: that was a begin which told this of y, no step came since, and y
-- still waits (profile)
pub record IsBegunSince (calls : List Call) (upcoming : Upcoming) (y j : ℕ) : Type 0 where
  pub inside : j < length calls
  pub told : upcoming_in (call_at calls j) ≡ Some upcoming
  pub own : upcoming ≡ foretold (history (take j calls)) y
  pub waited : is_waiting (history (take j calls)) y ≡ true
  pub unstepped : list_any steps (drop (j + 1) calls) ≡ false
  pub waits : is_waiting (history calls) y ≡ true

-- after the calls nothing is begun
abbrev pub NothingBegun : List Call → Type 0
NothingBegun calls = (upcoming : Upcoming) (y j : ℕ) → IsBegunSince calls upcoming y j → ⊥

-- ---- what may be answered

-- a begin may tell this: nothing where nothing waits, and else of a command that is in service or may start (profile)
abbrev pub IsForetold : Settings → Trace → Option Upcoming → Type 0
IsForetold c t None = waiting t ≡ []
IsForetold c t (Some upcoming) =
    (y : ℕ) × (is_waiting t y ≡ true) × ((in_service t y || is_startable c t y) ≡ true) × (upcoming ≡ foretold t y)

-- the command of this name is begun
abbrev pub IsBegun : List Call → Name → Type 0
IsBegun calls name =
    (upcoming : Upcoming) × (y : ℕ) × (j : ℕ) × IsBegunSince calls upcoming y j × (upcoming_name upcoming ≡ name)

-- after these calls this may be answered: a begin tells what it may, and only what is begun is finished. What may be
-- answered to an event is said by IsLegal (profile)
abbrev pub IsRightCall : Settings → List Call → Call → Type 0
IsRightCall c so_far (Plain event entry) = Unit {0}
IsRightCall c so_far (Begin upcoming) = IsForetold c (history so_far) upcoming
IsRightCall c so_far (Finish via reference k (Ok report)) = IsBegun so_far (name_on via reference)
IsRightCall c so_far (Finish via reference k (Err not_begun)) = Unit {0}

-- the step serves what was told: this command and this block, and it is a start exactly if the command had no step
-- (profile)
pub record IsAsTold (upcoming : Upcoming) (s : Service) : Type 0 where
  pub connection : s.connection ≡ upcoming.connection
  pub reference : s.reference ≡ upcoming.command.reference
  pub unit : s.unit ≡ upcoming.command.unit
  pub lbn : s.lbn ≡ upcoming.lbn
  pub started : s.started ≡ nat_eq upcoming.done 0

-- the call holds to what was begun: a begin tells the same, a step serves it, and no finish of it fails (profile)
abbrev pub HoldsTo : Upcoming → Call → Type 0
HoldsTo upcoming (Begin again) = again ≡ Some upcoming
HoldsTo upcoming (Finish via reference k (Err not_begun)) = upcoming_name upcoming ≢ name_on via reference
HoldsTo upcoming call = IfSome (service_of call) (IsAsTold upcoming)

-- the call holds to all that was begun
abbrev pub HoldsToBegun : List Call → Call → Type 0
HoldsToBegun so_far call = (upcoming : Upcoming) (y j : ℕ) → IsBegunSince so_far upcoming y j → HoldsTo upcoming call

-- R allows the command of this name after the calls so far: now, if nothing is begun, or else at the begin that told
-- of it (profile)
abbrev pub IsChosen : (List Call → Name → Type 0) → List Call → Name → Type 0
IsChosen R so_far n =
    (NothingBegun so_far × R so_far n)
    ⊎ ((upcoming : Upcoming) × (y : ℕ) × (j : ℕ) × IsBegunSince so_far upcoming y j × (upcoming_name upcoming ≡ n)
    × R (take j so_far) n)

-- what the call starts, or tells that the next step starts it, was chosen where R allowed it
abbrev pub StartsChosen : (List Call → Name → Type 0) → List Call → Call → Type 0
StartsChosen R so_far call = IfSome (starts call) (IsChosen R so_far)

-- R holds at each call, of the calls before it and of itself
abbrev pub AtEachCall : List Call → (List Call → Call → Type 0) → Type 0
AtEachCall calls R = (i : ℕ) → i < length calls → R (take i calls) (call_at calls i)

-- ---- what is held

-- what may be answered to a call, and what is held after it
abbrev pub AnswersCall : {K : Type 0} → (List Choice → ℕ → Type 0) → Holdings K → Call → Holdings K → Type 0
AnswersCall picks old (Plain event entry) new = Answers picks old event entry new
AnswersCall picks old (Begin upcoming) new = Foretells picks old upcoming new
AnswersCall picks old (Finish via reference k answer) new = Finishes picks (name_on via reference) k old answer new

-- the same of calls, one after the other
abbrev pub AnsweredCalls : {K : Type 0} → (List Choice → ℕ → Type 0) → Holdings K → List Call → Holdings K → Type 0
AnsweredCalls picks old [] new = new ≡ old
AnsweredCalls {K} picks old (call ∷ calls) new =
    (next : Holdings K) × AnswersCall picks old call next × AnsweredCalls picks next calls new
