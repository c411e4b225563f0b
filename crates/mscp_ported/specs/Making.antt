-- The calls that a port makes of its controller, by each call that is made of the port.
use Rattle.std.specs.Prelude.{◌≡◌, ◌⊎◌, ◌++◌, ℕ, List, [], ◌∷◌, Option, None, Some, Result, Ok, Err}
use Rattle.mscp_packet.specs.Statuses as statuses
use Rattle.mscp_packet.specs.declared.command.MoveKind.{MoveKind}
use Rattle.mscp_packet.specs.declared.end.End.{End}
use Rattle.mscp_drive.specs.Settings.{IsValid, Settings}
use Rattle.mscp_drive.specs.declared.block.Block.{Block}
use Rattle.mscp_drive.specs.declared.block.Block.TheVariants as blocks
use Rattle.mscp_drive.specs.declared.connection.Connection.TheVariants.{First}
use Rattle.mscp_drive.specs.declared.event.Event.TheVariants as events
use Rattle.mscp_queue.specs.declared.name.Name.{Name}
use Rattle.mscp_queue.specs.declared.report.Report.{Report}
use Rattle.mscp_queue.specs.declared.upcoming.Upcoming.{Upcoming}
use Rattle.mscp_controller.specs.declared.entry.Entry.TheVariants as entries
use Rattle.mscp_controller.specs.declared.entry.NotBegun.{NotBegun}
use Rattle.mscp_controller.specs.Calls.{AnsweredCalls, Begin, Finish, Plain, Call as Made}
use Rattle.mscp_controller.specs.Controllers.{KeepsPromise}
use Rattle.mscp_controller.specs.Holdings.{Holdings, begun_step, end_taken, fresh}
use Rattle.mscp_port.specs.declared.action.Outcome.{Outcome}
use Rattle.mscp_port.specs.declared.action.Outcome.TheVariants as outcomes
use Rattle.mscp_port.specs.declared.hardware.Hardware.{Hardware}
use Rattle.mscp_port.specs.declared.port.Outgoing.{Outgoing}
use Rattle.mscp_port.specs.declared.port.OutgoingKind.{OutgoingKind}
use Rattle.mscp_port.specs.declared.port.OutgoingKind.TheVariants as kinds
use Rattle.mscp_port.specs.declared.port.Port.{Port}
use Rattle.mscp_port.specs.declared.task.Task.{Task}
use Rattle.mscp_port.specs.declared.task.Task.TheVariants as tasks
use Rattle.mscp_port.specs.declared.verdict.Verdict.{Verdict}
use Rattle.mscp_port.specs.declared.verdict.Verdict.TheVariants as verdicts
use Rattle.mscp_port.specs.Calls.{IsMadeOf}
use Rattle.mscp_ported.specs.Departures.{IsForgotten}
use Rattle.mscp_port.specs.Histories.{Answered, Call, Next, Picking, WasRead, Went}
use Rattle.mscp_port.specs.Messages.{handed, own_end_of}
use Rattle.mscp_port.specs.Moved.{block_begun, part_now}
use Rattle.mscp_port.specs.Seen.{answered_to}

-- ---- what one call makes

-- an end of the disk's that begins to go out where nothing did, as something is wanted, was taken of the controller
abbrev pub taken_as : {K : Type 0} → Port K → OutgoingKind → List Made
taken_as old kinds.Attention = []
taken_as old kinds.End = Plain (events.Take First) (entries.Taken First (end_taken First old.controller)) ∷ []
taken_as old kinds.UtilitiesEnd = []

abbrev pub take_made : {K : Type 0} → Port K → Option Outgoing → Option Outgoing → List Made
take_made old None (Some o) = taken_as old o.kind
take_made old before after = []

-- a step that is taken in hand where nothing was, with a block or without one, was begun
abbrev pub begin_made : {K : Type 0} → Port K → Task → Task → List Made
begin_made new tasks.Free (tasks.Step verdict) = Begin (begun_step new.controller) ∷ []
begin_made new tasks.Free tasks.Transfer = Begin (begun_step new.controller) ∷ []
begin_made new before after = []

-- a message that was read is sent, unless the port answers it itself
abbrev pub unless_own : Option End → Made → List Made
unless_own None made = made ∷ []
unless_own (Some e) made = []

abbrev pub send_made : {K : Type 0} → Port K → List ℕ → Task → List Made
send_made old bytes (tasks.Text slot size foreign) =
    unless_own (own_end_of old foreign bytes) (Plain
    (events.Send First (record { items = handed old.controller.settings.units bytes }))
    (entries.Sent First (answered_to old bytes)))
send_made old bytes task = []

-- what the controller is told of a block whose action went so (manual, "Status and Event Codes": Host Buffer Access
-- Error where memory isn't there, has a parity error or isn't mapped, and Compare Error)
abbrev pub told_as : Outcome → Block
told_as outcomes.Done = blocks.Good
told_as outcomes.Missing = blocks.Bad statuses.missing
told_as outcomes.Parity = blocks.Bad statuses.parity
told_as outcomes.Unmapped = blocks.Bad statuses.unmapped
told_as outcomes.Different = blocks.Bad statuses.different
told_as (outcomes.Failed status) = blocks.Bad status

-- of a step that had no volume, or whose unit wasn't online with it, it is told a Drive Error: of volumes it knows
-- nothing
abbrev pub told_of : Verdict → Block
told_of (verdicts.Served block) = block
told_of verdicts.NoVolume = blocks.Bad statuses.drive_error
told_of verdicts.NotOnline = blocks.Bad statuses.drive_error

-- a step may have to end all the same
abbrev pub told_unless : Outcome → Result (ℕ × ℕ) Verdict → Block
told_unless outcome (Ok part) = told_as outcome
told_unless outcome (Err verdict) = told_of verdict

-- of the block that the begun step moves. Where none is begun it is a Drive Error
abbrev pub transfer_told : {K : Type 0} → Port K → Outcome → Option (Upcoming × MoveKind × ℕ) → Block
transfer_told old outcome None = blocks.Bad statuses.drive_error
transfer_told old outcome (Some m) = told_unless outcome (part_now old m.0 m.1 m.2)

-- the outcome of the step that is in hand, where its action went so
abbrev pub step_told : {K : Type 0} → Port K → Outcome → Task → Option Block
step_told old outcome (tasks.Step verdict) = Some (told_of verdict)
step_told old outcome tasks.Transfer = Some (transfer_told old outcome (block_begun old))
step_told old outcome task = None

-- the step that is begun is finished with that outcome
abbrev pub IsFinish : Option Block → Option Name → List Made → Type 0
IsFinish (Some block) (Some name) made =
    (result : Result Report NotBegun) × (made ≡ Finish name.connection name.reference block result ∷ [])
IsFinish block begun made = made ≡ []

-- by this call of a port these calls are made of its controller
abbrev pub Makes : {K : Type 0} → Call → Port K → Port K → List Made → Type 0
Makes (Next blocks action bytes) old new made =
    made ≡ take_made old old.outgoing new.outgoing ++ begin_made new old.task new.task
Makes (WasRead bytes (Ok done)) old new made = made ≡ send_made old bytes old.task
Makes (Went outcome (Ok done)) old new made = IsFinish (step_told old outcome old.task) old.controller.begun made
Makes call old new made = made ≡ []

-- ---- what a history makes

-- these calls were made of the controller since all was forgotten last; if it never was, behind those that came before
-- the port
abbrev pub AreMade : {K : Type 0} (picks : Picking K) (before : List Made) (start p : Port K) (calls : List Call)
    → Answered picks start calls p → List Made → Type 0
AreMade picks before start p [] a made = made ≡ before
AreMade picks before start p (call ∷ earlier) a made =
    (IsForgotten a.0 p × (made ≡ []))
    ⊎ ((so_far : List Made) × (more : List Made) × AreMade picks before start a.0 earlier a.1 so_far
    × Makes call a.0 p more × (made ≡ so_far ++ more))

-- the law of the controller in a port: a port was made over a controller, which had answered some calls before. Whoever
-- calls the port, and whatever its host writes: the calls that it has made of its controller since all was forgotten
-- last keep the promise
abbrev pub PortsKeepThePromise : {K : Type 0} → Picking K → K → Type 0
PortsKeepThePromise {K} picks picker =
    (c : Settings) (before : List Made) (controller : Holdings K) (hardware : Hardware) (credits : ℕ)
    (start p : Port K) (calls : List Call) → IsValid c
    → AnsweredCalls (picks picker) (fresh c picker) before controller
    → IsMadeOf hardware credits controller start → (a : Answered picks start calls p)
    → (made : List Made) × AreMade picks before start p calls a made × KeepsPromise (picks picker) c made p.controller
