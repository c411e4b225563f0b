-- What somebody calls from C who holds a handle on a controller, what is told, and what is promised of it.
use Rattle.std.specs.Prelude.{◌≡◌, ℕ, ℤ, pos, List, [], ◌∷◌, ◌++◌, length, map, Option, MatchOption, Result, Ok}
use Rattle.arrayvec.specs.ArrayVec.{ArrayVec}
use Rattle.mscp_queue.specs.Names.{name_on}
use Rattle.mscp_drive.specs.declared.connection.Connection.{Connection}
use Rattle.mscp_drive.specs.declared.block.Block.{Block}
use Rattle.mscp_queue.specs.declared.report.Report.{Report}
use Rattle.mscp_queue.specs.declared.upcoming.Upcoming.{Upcoming}
use Rattle.mscp_queue.specs.Drives.{is_online_in}
use Rattle.mscp_drive.specs.declared.event.Event.TheVariants as events
use Rattle.mscp_controller.specs.declared.entry.Entry.TheVariants as entries
use Rattle.mscp_controller.specs.declared.entry.SendFault.{SendFault}
use Rattle.mscp_controller.specs.declared.entry.Sent.{Sent}
use Rattle.mscp_controller.specs.declared.entry.NotBegun.{NotBegun}
use Rattle.mscp_drive.specs.Settings.{Settings, IsValid}
use Rattle.mscp_drive.specs.Both.{of}
use Rattle.mscp_controller.specs.Holdings.{after_message, after_take, answer_to_message, balance_of, end_taken, fresh, waiting_on}
use Rattle.mscp_controller.specs.Commands.{waiting_by}
use Rattle.mscp_controller.specs.Account.{untaken, balance}
use Rattle.mscp_controller.specs.Figures.{figure_of}
use Rattle.mscp_controller.specs.Holders.{holders_of}
use Rattle.mscp_controller.specs.Calls as calls
use Rattle.mscp_controller.specs.Calls.{Call, history}
use Rattle.mscp_controller.specs.Controllers.{KeepsPromise, drive_now}
use Rattle.mscp_memory.specs.ControllerHandles.{Handle, Held, with_held}
use Rattle.mscp_memory.specs.declared.policy.Policy.{Policy}
use Rattle.mscp_memory.specs.Policies.{PolicyPicks}
use Rattle.mscp_c.specs.declared.status.TheConstants.{BAD_CONNECTION, BAD_STATUS}
use Rattle.mscp_c.specs.declared.outs.SentOut.{SentOut}
use Rattle.mscp_c.specs.declared.outs.PacketOut.{PacketOut}
use Rattle.mscp_c.specs.declared.outs.UpcomingOut.{UpcomingOut}
use Rattle.mscp_c.specs.declared.outs.ReportOut.{ReportOut}
use Rattle.mscp_c.specs.declared.outs.FigureOut.{FigureOut}
use Rattle.mscp_c.specs.declared.outs.HolderOut.{HolderOut}
use Rattle.mscp_c.specs.declared.units.Limits.{Limits}
use Rattle.mscp_c.specs.declared.units.UnitIn.{UnitIn}
use Rattle.mscp_c.specs.Given.{TellsSettings, connection_given}
use Rattle.mscp_c.specs.Told.{TakeTold, begin_code, block_told, figure_in, figures_in, figures_told, flag, holders_in, holders_told, report_code, report_told, send_code, sent_told, take_code, upcoming_told}
use Rattle.mscp_c.specs.Restoring.{restored_by}
use Rattle.mscp_c.specs.Served.{TellsBegin, TellsFinish, TellsStep, finish_code, finish_told}

-- ---- calls

-- a call on a handle: what was passed; what the out-pointer pointed to, if there is one; the status or number that was
-- answered; and what the out-pointer points to then (profile)
pub data HandleCall : Type 0 where
  -- the number of a connection, and the bytes of a message
  Send : ℕ → List ℕ → SentOut → ℤ → SentOut → HandleCall
  -- the number of a connection
  Take : ℕ → PacketOut → ℤ → PacketOut → HandleCall
  Begin : UpcomingOut → ℤ → UpcomingOut → HandleCall
  -- the number of a connection, a reference number, and the status of its block
  Finish : ℕ → ℕ → ℕ → ReportOut → ℤ → ReportOut → HandleCall
  -- the status of a block
  Step : ℕ → ReportOut → ℤ → ReportOut → HandleCall
  Look : List FigureOut → ℤ → List FigureOut → HandleCall
  -- the number of a connection, and a reference number
  Figure : ℕ → ℕ → ℤ → HandleCall
  -- the same, and who keeps the command back
  Why : ℕ → ℕ → List HolderOut → ℤ → List HolderOut → HandleCall
  -- the number of a connection
  Balance : ℕ → ℤ → HandleCall
  Waiting : ℕ → ℤ → HandleCall
  Untaken : ℕ → ℤ → HandleCall
  -- the number of a unit
  Online : ℕ → ℤ → HandleCall
  -- what the two out-pointers pointed to, what was answered, and what they point to then
  Configured : Limits → List UnitIn → ℤ → Limits → List UnitIn → HandleCall
  -- from here on a handle on other memory goes on, for which the controller was restored from these bytes
  Resume : List ℕ → HandleCall

-- a number that is no connection, or no status of a block, is refused with this status, and nothing changes
abbrev pub Refuses : {Out : Type 0} → ℤ → Handle → Out → ℤ → Handle → Out → Type 0
Refuses code old before status new after = (status ≡ code) × (new ≡ old) × (after ≡ before)

-- the answer is this value of the number's connection, or BAD_CONNECTION where the number is none
abbrev pub AnswersOf : ℕ → (Connection → ℕ) → ℤ → Type 0
AnswersOf number value answer =
    MatchOption (connection_given number) (answer ≡ BAD_CONNECTION) (λ via. answer ≡ pos (value via))

-- what a message of a connection answers, and what is there then
abbrev pub AnswersSend : Connection → Handle → List ℕ → SentOut → ℤ → SentOut → Handle → Type 0
AnswersSend via old message before status after new =
    (new ≡ with_held old (after_message via old.held message))
    × (status ≡ send_code (answer_to_message via old.held message))
    × (after ≡ sent_told (answer_to_message via old.held message) before)

-- the same of a take
abbrev pub AnswersTake : Connection → Handle → PacketOut → ℤ → PacketOut → Handle → Type 0
AnswersTake via old before status after new =
    (new ≡ with_held old (after_take via old.held))
    × (status ≡ take_code (end_taken via old.held)) × TakeTold (end_taken via old.held) before after

-- the same of a finish
abbrev pub AnswersFinish : Connection → Handle → ℕ → ℕ → ReportOut → ℤ → ReportOut → Handle → Type 0
AnswersFinish via old reference block before status after new =
    MatchOption (block_told block) (Refuses BAD_STATUS old before status new after)
    (λ k. TellsFinish via reference k old before status new after)

-- the same of who keeps a command back
abbrev pub AnswersWhy : Connection → Handle → ℕ → List HolderOut → ℤ → List HolderOut → Handle → Type 0
AnswersWhy via old reference before status after new =
    (status ≡ pos (length (holders_in old.held via reference)))
    × (after ≡ holders_told (holders_in old.held via reference) before) × (new ≡ old)

-- what a call on a handle that was made answers, and what is there then
abbrev pub AnswersHandle : Handle → HandleCall → Handle → Type 0
AnswersHandle old (Send number message before status after) new =
    MatchOption (connection_given number) (Refuses BAD_CONNECTION old before status new after)
    (λ via. AnswersSend via old message before status after new)
AnswersHandle old (Take number before status after) new =
    MatchOption (connection_given number) (Refuses BAD_CONNECTION old before status new after)
    (λ via. AnswersTake via old before status after new)
AnswersHandle old (Begin before status after) new = TellsBegin old before status new after
AnswersHandle old (Finish number reference block before status after) new =
    MatchOption (connection_given number) (Refuses BAD_CONNECTION old before status new after)
    (λ via. AnswersFinish via old reference block before status after new)
AnswersHandle old (Step block before status after) new =
    MatchOption (block_told block) (Refuses BAD_STATUS old before status new after)
    (λ k. TellsStep k old before status new after)
AnswersHandle old (Look before status after) new =
    (status ≡ pos (length (figures_in old.held))) × (after ≡ figures_told (figures_in old.held) before) × (new ≡ old)
AnswersHandle old (Figure number reference answer) new =
    AnswersOf number (λ via. figure_in old.held via reference) answer × (new ≡ old)
AnswersHandle old (Why number reference before status after) new =
    MatchOption (connection_given number) (Refuses BAD_CONNECTION old before status new after)
    (λ via. AnswersWhy via old reference before status after new)
AnswersHandle old (Balance number answer) new = AnswersOf number (λ via. balance_of via old.held) answer × (new ≡ old)
AnswersHandle old (Waiting number answer) new =
    AnswersOf number (λ via. length (waiting_on via old.held.waiting)) answer × (new ≡ old)
AnswersHandle old (Untaken number answer) new =
    AnswersOf number (λ via. length (of via old.held.untaken)) answer × (new ≡ old)
AnswersHandle old (Online unit answer) new = (answer ≡ pos (flag (is_online_in old.held.drives unit))) × (new ≡ old)
AnswersHandle old (Configured limits units answer limits' units') new =
    TellsSettings old.held.settings units answer limits' units' × (new ≡ old)
AnswersHandle old (Resume bytes) new = (restored_by bytes ≡ Ok old.held) × (new.held ≡ old.held)

-- the same of calls, one after the other
abbrev pub AnsweredByHandle : Handle → List HandleCall → Handle → Type 0
AnsweredByHandle old [] new = new ≡ old
AnsweredByHandle old (call ∷ more) new = (next : Handle) × AnswersHandle old call next × AnsweredByHandle next more new

-- ---- what they tell

-- a number was refused with this status, and nothing was told
abbrev pub TellsRefused : {Out : Type 0} → ℤ → Out → ℤ → Out → List Call → Type 0
TellsRefused code before status after next = (next ≡ []) × (status ≡ code) × (after ≡ before)

-- the number was that of this connection: what became of the message, or the end, is told
abbrev pub TellsSent : Connection → List ℕ → SentOut → ℤ → SentOut → List Call → Type 0
TellsSent via message before status after next =
    (sent : Result Sent SendFault)
    × (next ≡ calls.Plain (events.Send via (record { items = message })) (entries.Sent via sent) ∷ [])
    × (status ≡ send_code sent) × (after ≡ sent_told sent before)

abbrev pub TellsTaken : Connection → PacketOut → ℤ → PacketOut → List Call → Type 0
TellsTaken via before status after next =
    (end : Option (ArrayVec ℕ)) × (next ≡ calls.Plain (events.Take via) (entries.Taken via end) ∷ [])
    × (status ≡ take_code end) × TakeTold end before after

-- the status was that of this block: a finish or a step is told
abbrev pub TellsFinished : Connection → ℕ → Block → ReportOut → ℤ → ReportOut → List Call → Type 0
TellsFinished via reference k before status after next =
    (answer : Result Report NotBegun) × (next ≡ calls.Finish via reference k answer ∷ [])
    × (status ≡ finish_code answer) × (after ≡ finish_told answer before)

abbrev pub TellsBlock : Connection → ℕ → ℕ → ReportOut → ℤ → ReportOut → List Call → Type 0
TellsBlock via reference block before status after next =
    MatchOption (block_told block) (TellsRefused BAD_STATUS before status after next)
    (λ k. TellsFinished via reference k before status after next)

abbrev pub TellsStepped : Block → ReportOut → ℤ → ReportOut → List Call → Type 0
TellsStepped k before status after next =
    (report : Report) × (next ≡ calls.Plain (events.Step k) (entries.Stepped report) ∷ [])
    × (status ≡ report_code report) × (after ≡ report_told report before)

-- the number was that of this connection: who keeps the command back after the calls so far is told
abbrev pub TellsWhy :
    Settings → List Call → Connection → ℕ → List HolderOut → ℤ → List HolderOut → List Call → Type 0
TellsWhy c so_far via reference before status after next =
    (next ≡ []) × (status ≡ pos (length (holders_of c (history so_far) (name_on via reference))))
    × (after ≡ holders_told (holders_of c (history so_far) (name_on via reference)) before)

-- after these calls of a controller the call on its handle is the next of them, or is none and tells what is so after
-- their history: status, numbers and out-struct tell what the controller answers (profile)
abbrev pub Tells : Settings → List Call → HandleCall → List Call → Type 0
Tells c so_far (Send number message before status after) next =
    MatchOption (connection_given number) (TellsRefused BAD_CONNECTION before status after next)
    (λ via. TellsSent via message before status after next)
Tells c so_far (Take number before status after) next =
    MatchOption (connection_given number) (TellsRefused BAD_CONNECTION before status after next)
    (λ via. TellsTaken via before status after next)
Tells c so_far (Begin before status after) next =
    (upcoming : Option Upcoming) × (next ≡ calls.Begin upcoming ∷ [])
    × (status ≡ begin_code upcoming) × (after ≡ upcoming_told upcoming 0 before)
Tells c so_far (Finish number reference block before status after) next =
    MatchOption (connection_given number) (TellsRefused BAD_CONNECTION before status after next)
    (λ via. TellsBlock via reference block before status after next)
Tells c so_far (Step block before status after) next =
    MatchOption (block_told block) (TellsRefused BAD_STATUS before status after next)
    (λ k. TellsStepped k before status after next)
Tells c so_far (Look before status after) next =
    (list : ArrayVec (Connection × ℕ × ℕ)) × (next ≡ calls.Plain events.Look (entries.Looked list) ∷ [])
    × (status ≡ pos (length list.items)) × (after ≡ figures_told list.items before)
Tells c so_far (Figure number reference answer) next =
    (next ≡ []) × AnswersOf number (λ via. figure_of c (history so_far) (name_on via reference)) answer
Tells c so_far (Why number reference before status after) next =
    MatchOption (connection_given number) (TellsRefused BAD_CONNECTION before status after next)
    (λ via. TellsWhy c so_far via reference before status after next)
Tells c so_far (Balance number answer) next =
    (next ≡ []) × AnswersOf number (λ via. balance c via (history so_far)) answer
Tells c so_far (Waiting number answer) next =
    (next ≡ []) × AnswersOf number (λ via. length (waiting_by via (history so_far))) answer
Tells c so_far (Untaken number answer) next =
    (next ≡ []) × AnswersOf number (λ via. length (untaken c via (history so_far))) answer
Tells c so_far (Online unit answer) next =
    (next ≡ []) × (answer ≡ pos (flag (is_online_in (map (drive_now c (history so_far)) c.units) unit)))
Tells c so_far (Configured limits units answer limits' units') next =
    (next ≡ []) × TellsSettings c units answer limits' units'
Tells c so_far (Resume bytes) next = next ≡ []

-- the same of calls, one after the other
abbrev pub TellsAll : Settings → List Call → List HandleCall → List Call → Type 0
TellsAll c so_far [] told = told ≡ []
TellsAll c so_far (call ∷ more) told =
    (next : List Call) × (rest : List Call) × (told ≡ next ++ rest)
    × Tells c so_far call next × TellsAll c (so_far ++ next) more rest

-- ---- the promise

-- what is promised of a handle whose controller answered so to these calls, and now holds this
pub record KeepsHandlePromise (c : Settings) (policy : Policy) (made : List HandleCall) (held : Held) : Type 0 where
  -- the calls on the handle are these of a controller
  pub told : List Call
  pub tells : TellsAll c [] made told
  -- of which all is promised that is promised of a controller that somebody holds
  pub keeps : KeepsPromise (PolicyPicks policy) c told held

-- the law: every handle keeps the promise, whoever calls it, from an init or a reset on (profile)
abbrev pub HandlesKeepThePromise : Policy → Type 0
HandlesKeepThePromise policy =
    (c : Settings) (made : List HandleCall) (old new : Handle) → IsValid c → old.held ≡ fresh c policy
    → AnsweredByHandle old made new → KeepsHandlePromise c policy made new.held
