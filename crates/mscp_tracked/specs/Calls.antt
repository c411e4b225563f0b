-- What somebody calls who holds a tracked controller, what it answers, and what is promised of that.
use Rattle.std.specs.Prelude.{◌≡◌, ℕ, ◌+◌, ◌^◌, ◌<◌, Bool, true, false, List, [], ◌∷◌, ◌++◌, length, Option, Some, Result, Ok, Err}
use Rattle.std.specs.List.{list_any}
use Rattle.mscp_drive.specs.declared.block.Block.{Block}
use Rattle.mscp_drive.specs.declared.connection.Connection.{Connection}
use Rattle.mscp_queue.specs.declared.name.Name.{Name}
use Rattle.mscp_queue.specs.declared.view.Choice.{Choice}
use Rattle.mscp_queue.specs.Names.{name_on, same_name}
use Rattle.mscp_queue.specs.Serving.{is_begun}
use Rattle.mscp_controller.specs.Calls.{upcoming_name}
use Rattle.mscp_controller.specs.Holdings.{answer_to_message}
use Rattle.mscp_controller.specs.declared.entry.NotBegun.{NotBegun}
use Rattle.mscp_controller.specs.declared.entry.SendFault.{SendFault}
use Rattle.mscp_controller.specs.declared.entry.Sent.{Sent}
use Rattle.mscp_controller.specs.declared.entry.Sent.TheVariants.{Answered}
use Rattle.mscp_tracked.specs.declared.tracked.Beginning.{Beginning}
use Rattle.mscp_tracked.specs.declared.tracked.Ended.{Ended}
use Rattle.mscp_tracked.specs.declared.tracked.Finished.{Finished}
use Rattle.mscp_tracked.specs.declared.tracked.Taken.{Taken}
use Rattle.mscp_tracked.specs.Saved.{saved_bytes, restored}
use Rattle.mscp_tracked.specs.Trackings.{Begins, Finishes, IsReportOf, Serves, Tracking, after_message_with, after_take, end_taken, has_serial, new_after, oldest_end}

-- a call, and what was answered to it
pub data Call : Type 0 where
  -- a message of this connection with this cookie
  Send : Connection → List ℕ → ℕ → Result Sent SendFault → Call
  -- the oldest end of this connection is looked at, or taken
  Look : Connection → Option Ended → Call
  Take : Connection → Option Taken → Call
  Begin : Option Beginning → Call
  -- a finish by serial, and one by connection and reference number
  FinishBegun : ℕ → Block → Result Finished NotBegun → Call
  Finish : Connection → ℕ → Block → Result Finished NotBegun → Call
  Step : Block → Finished → Call
  Reset : Call
  -- it is saved with a picker of this number, and restored from that
  Restore : ℕ → Call

-- what may be answered to a call, and what is held after it
abbrev pub AnswersCall : {K : Type 0} → (List Choice → ℕ → Type 0) → Tracking K → Call → Tracking K → Type 0
AnswersCall picks old (Send via b cookie became) new =
    (became ≡ answer_to_message via old.controller b) × (new ≡ after_message_with via old b cookie)
AnswersCall picks old (Look via end) new = (end ≡ oldest_end via old) × (new ≡ old)
AnswersCall picks old (Take via end) new = (end ≡ end_taken via old) × (new ≡ after_take via old)
AnswersCall picks old (Begin told) new = Begins picks old told new
AnswersCall picks old (FinishBegun serial k answer) new = Finishes picks (has_serial serial old) k old answer new
AnswersCall picks old (Finish via reference k answer) new =
    Finishes picks (is_begun (name_on via reference) old.controller.begun) k old answer new
AnswersCall picks old (Step k finished) new = Serves picks k old finished new
AnswersCall picks old Reset new = new ≡ new_after old.beginnings old.controller.settings old.controller.picker
AnswersCall picks old (Restore number) new =
    (restored number old.controller.picker (saved_bytes number old) ≡ Ok old)
    × (restored number old.controller.picker (saved_bytes number old) ≡ Ok new)

-- the same of calls, one after the other
abbrev pub AnsweredCalls : {K : Type 0} → (List Choice → ℕ → Type 0) → Tracking K → List Call → Tracking K → Type 0
AnsweredCalls picks old [] new = new ≡ old
AnsweredCalls {K} picks old (call ∷ calls) new =
    (next : Tracking K) × AnswersCall picks old call next × AnsweredCalls picks next calls new

-- ---- serials

-- the call lets go what was begun of the command of this name: it is a step, an ABORT of that command, or a reset
abbrev pub lets_go : Name → Call → Bool
lets_go name (Send via b cookie (Ok (Answered reference (Some other)))) = same_name (name_on via other) name
lets_go name (FinishBegun serial k (Ok finished)) = true
lets_go name (Finish via reference k (Ok finished)) = true
lets_go name (Step k finished) = true
lets_go name Reset = true
lets_go name call = false

-- one of these calls lets go what this begin told
abbrev pub was_let_go : Beginning → List Call → Bool
was_let_go told calls = list_any (lets_go (upcoming_name told.upcoming)) calls

-- where two begins of a list tell one serial, both tell the same step, and none of the calls between them let it go
abbrev pub SerialsAreOwn : List Call → Type 0
SerialsAreOwn calls = (before between behind : List Call) (one other : Beginning)
    → calls ≡ before ++ Begin (Some one) ∷ (between ++ Begin (Some other) ∷ behind) → other.serial ≡ one.serial
    → (other.upcoming ≡ one.upcoming) × (was_let_go one between ≡ false)

-- a finish of what this begin told, behind these calls, happens exactly if none of them let it go, and serves the
-- block that the begin told
abbrev pub FinishesWhatWasTold : Beginning → List Call → Result Finished NotBegun → Type 0
FinishesWhatWasTold told between (Ok finished) =
    (was_let_go told between ≡ false) × IsReportOf told.upcoming finished.report
FinishesWhatWasTold told between (Err not_begun) = was_let_go told between ≡ true

-- so does each finish by a serial that a begin told
abbrev pub FinishesAreOwn : List Call → Type 0
FinishesAreOwn calls = (before between behind : List Call) (told : Beginning) (k : Block)
    (answer : Result Finished NotBegun)
    → calls ≡ before ++ Begin (Some told) ∷ (between ++ FinishBegun told.serial k answer ∷ behind)
    → FinishesWhatWasTold told between answer

-- a finish that fails is as if nobody had called it: the others are answered so without it
abbrev pub FailuresAreNothing : {K : Type 0} → (List Choice → ℕ → Type 0)
    → Tracking K → List Call → Tracking K → Type 0
FailuresAreNothing picks first calls held = (before behind : List Call) (serial : ℕ) (k : Block) (failure : NotBegun)
    → calls ≡ before ++ FinishBegun serial k (Err failure) ∷ behind → AnsweredCalls picks first (before ++ behind) held

-- what is promised of the serials of a controller that held this first, answered so to these calls, and holds this now
pub record KeepsSerials {K : Type 0} (picks : List Choice → ℕ → Type 0)
    (first : Tracking K) (calls : List Call) (held : Tracking K) : Type 0 where
  pub serials : SerialsAreOwn calls
  pub finishes : FinishesAreOwn calls
  pub failures : FailuresAreNothing picks first calls held

-- the law: every list of calls keeps that promise, while the beginnings and the calls are together below 2^64
abbrev pub SerialsAreKept : {K : Type 0} → (List Choice → ℕ → Type 0) → K → Type 0
SerialsAreKept {K} picks picker = (first held : Tracking K) (calls : List Call)
    → first.beginnings + length calls < 2 ^ 64 → AnsweredCalls picks first calls held
    → KeepsSerials picks first calls held
