-- What somebody calls from C who holds a handle on a port, what is told, and what is promised of it.
use Rattle.std.specs.Prelude.{◌≡◌, ◌==◌, not, ℕ, ℤ, pos, true, false, List, [], ◌∷◌, ◌++◌, length, MatchBool, MatchOption, Option, None, Some, Result, Ok}
use Rattle.mscp_port.specs.declared.action.Action.{Action}
use Rattle.mscp_port.specs.declared.action.Ask.TheVariants as asks
use Rattle.mscp_port.specs.declared.action.Outcome.{Outcome}
use Rattle.mscp_port.specs.declared.action.Unasked.{Unasked}
use Rattle.mscp_port.specs.declared.port.watching.NoUnit.{NoUnit}
use Rattle.mscp_port.specs.Calls as ports
use Rattle.mscp_port.specs.Watching as watched
use Rattle.mscp_memory.specs.Policies.{PolicyPicks}
use Rattle.mscp_port.specs.Histories.{Answered, Becomes, Call}
use Rattle.mscp_port.specs.Histories as calls
use Rattle.mscp_memory.specs.PortHandles.{Handle, Held}
use Rattle.mscp_c.specs.declared.outs.ActionOut.{ActionOut}
use Rattle.mscp_c.specs.declared.outs.FigureOut.{FigureOut}
use Rattle.mscp_c.specs.declared.outs.HolderOut.{HolderOut}
use Rattle.mscp_c.specs.declared.outs.StateOut.{StateOut}
use Rattle.mscp_c.specs.declared.outs.UpcomingOut.{UpcomingOut}
use Rattle.mscp_c.specs.declared.outs.VolumeOut.{VolumeOut}
use Rattle.mscp_c.specs.declared.status.TheConstants.{BAD_CONNECTION, BAD_OUTCOME, DONE, UNASKED}
use Rattle.mscp_c.specs.declared.units.Limits.{Limits}
use Rattle.mscp_c.specs.declared.units.UnitIn.{UnitIn}
use Rattle.mscp_c.specs.Given.{TellsSettings, connection_given}
use Rattle.mscp_c.specs.PortSeen.{hardware_told, seen_code, state_told, volume_told}
use Rattle.mscp_port.specs.Messages.{volume_of}
use Rattle.mscp_port.specs.Volumes.{volume_changed, volume_protected}
use Rattle.mscp_port.specs.declared.volumes.VolumeFault.{VolumeFault}
use Rattle.mscp_c.specs.Told.{begin_code, figures_in, figures_told, holders_in, holders_told, upcoming_told}
use Rattle.mscp_controller.specs.Holdings.{begun_step}
use Rattle.mscp_drive.specs.declared.connection.Connection.{Connection}
use Rattle.mscp_c.specs.declared.port_given.HardwareIn.{HardwareIn}
use Rattle.mscp_c.specs.declared.port_given.MediumIn.{MediumIn}
use Rattle.mscp_c.specs.PortGiven.{medium_given, outcome_given}
use Rattle.mscp_c.specs.PortSaving.{restored_by}
use Rattle.mscp_c.specs.PortServed.{Holds, TellsHeard, TellsPut, TellsVolume, TellsWanted, TellsWent, TellsWentBy, put_code, told_code, volume_code}
use Rattle.mscp_c.specs.PortTold.{action_told, next_code, serial_told}
use Rattle.mscp_port.specs.Ports.{put_aside}
use Rattle.mscp_port.specs.Serials.{is_of_serial}

-- ---- calls

-- a call on a port's handle: what was passed; what the out-pointer pointed to, if there is one; the status or number
-- that was answered; and what the out-pointer points to then (profile)
pub data HandleCall : Type 0 where
  ReadIp : ℤ → HandleCall
  WriteIp : ℤ → HandleCall
  ReadSa : ℤ → HandleCall
  -- a word
  WriteSa : ℕ → ℤ → HandleCall
  Next : ActionOut → ℤ → ActionOut → HandleCall
  NextMessage : ActionOut → ℤ → ActionOut → HandleCall
  -- the bytes that were read
  WasRead : List ℕ → ℤ → HandleCall
  -- the number of an outcome, and a status
  Went : ℕ → ℕ → ℤ → HandleCall
  -- the same of the block of this serial
  WentBy : ℕ → ℕ → ℕ → ℤ → HandleCall
  LookAgain : ℤ → HandleCall
  Tick : ℤ → HandleCall
  -- the number of a unit, and what was put into it
  VolumeCame : ℕ → MediumIn → ℤ → HandleCall
  VolumeWent : ℕ → ℤ → HandleCall
  -- and whether its volume is protected
  Protect : ℕ → ℕ → ℤ → HandleCall
  -- looks, which change nothing: what each out-pointer pointed to, what was answered, and what it points to then
  Configured : Limits → List UnitIn → ℤ → Limits → List UnitIn → HandleCall
  Hardware : HardwareIn → ℤ → HardwareIn → HandleCall
  State : StateOut → ℤ → StateOut → HandleCall
  Volume : ℕ → VolumeOut → ℤ → VolumeOut → HandleCall
  Begun : UpcomingOut → ℤ → UpcomingOut → HandleCall
  Look : List FigureOut → ℤ → List FigureOut → HandleCall
  -- the number of a connection, and a reference number
  Why : ℕ → ℕ → List HolderOut → ℤ → List HolderOut → HandleCall
  -- from here on a handle on other memory goes on, for which the port was restored from these bytes
  Resume : List ℕ → HandleCall

-- who keeps a command of a connection back is told, if there is such a connection
abbrev pub TellsHolders : Option Connection → ℕ → Held → List HolderOut → ℤ → List HolderOut → Type 0
TellsHolders None reference held before answer after = (answer ≡ BAD_CONNECTION) × (after ≡ before)
TellsHolders (Some via) reference held before answer after =
    (answer ≡ pos (length (holders_in held.controller via reference)))
    × (after ≡ holders_told (holders_in held.controller via reference) before)

-- what a call on a handle that was made answers, and what is there then
abbrev pub AnswersHandle : Handle → HandleCall → Handle → Type 0
AnswersHandle old (ReadIp status) new = Holds ports.ReadsIp old new × (status ≡ DONE)
AnswersHandle old (WriteIp status) new = Holds ports.WritesIp old new × (status ≡ DONE)
AnswersHandle old (ReadSa answer) new = (answer ≡ pos (ports.sa_of old.held)) × (new ≡ old)
AnswersHandle old (WriteSa word status) new = Holds (ports.WritesSa word) old new × (status ≡ DONE)
AnswersHandle old (Next before status after) new = TellsWanted asks.All old before status new after
AnswersHandle old (NextMessage before status after) new = TellsWanted asks.Messages old before status new after
AnswersHandle old (WasRead bytes status) new = TellsHeard bytes old status new
AnswersHandle old (Went number block status) new =
    MatchOption (outcome_given number block) ((status ≡ BAD_OUTCOME) × (new ≡ old))
    (λ outcome. TellsWent outcome old status new)
AnswersHandle old (WentBy serial number block status) new =
    MatchOption (outcome_given number block) ((status ≡ BAD_OUTCOME) × (new ≡ old))
    (λ outcome. TellsWentBy serial outcome old status new)
AnswersHandle old (LookAgain status) new = Holds watched.LooksAgain old new × (status ≡ DONE)
AnswersHandle old (Tick status) new = Holds watched.Ticks old new × (status ≡ DONE)
AnswersHandle old (VolumeCame unit medium status) new = TellsPut (medium_given medium) unit old status new
AnswersHandle old (VolumeWent unit status) new = TellsVolume (volume_changed false) unit old status new
AnswersHandle old (Protect unit flag status) new =
    TellsVolume (volume_protected (not (flag == 0))) unit old status new
AnswersHandle old (Configured limits units answer limits' units') new =
    TellsSettings old.held.controller.settings units answer limits' units' × (new ≡ old)
AnswersHandle old (Hardware before status after) new =
    (after ≡ hardware_told old.held.hardware) × (status ≡ DONE) × (new ≡ old)
AnswersHandle old (State before status after) new = (after ≡ state_told old.held) × (status ≡ DONE) × (new ≡ old)
AnswersHandle old (Volume unit before status after) new =
    (after ≡ volume_told (volume_of old.held unit) before) × (status ≡ seen_code (volume_of old.held unit))
    × (new ≡ old)
AnswersHandle old (Begun before status after) new =
    (after ≡ upcoming_told (begun_step old.held.controller) (serial_told old.held) before)
    × (status ≡ begin_code (begun_step old.held.controller)) × (new ≡ old)
AnswersHandle old (Look before answer after) new =
    (after ≡ figures_told (figures_in old.held.controller) before)
    × (answer ≡ pos (length (figures_in old.held.controller))) × (new ≡ old)
AnswersHandle old (Why number reference before answer after) new =
    TellsHolders (connection_given number) reference old.held before answer after × (new ≡ old)
AnswersHandle old (Resume bytes) new = (restored_by bytes ≡ Ok old.held) × (new.held ≡ old.held)

-- the same of calls, the last one first, as in the histories of ports
abbrev pub AnsweredByHandle : Handle → List HandleCall → Handle → Type 0
AnsweredByHandle start [] h = h ≡ start
AnsweredByHandle start (call ∷ earlier) h =
    (before : Handle) × AnsweredByHandle start earlier before × AnswersHandle before call h

-- ---- what they tell

-- an action went so: what was answered to that is told
abbrev pub TellsOutcome : Outcome → ℤ → List Call → Type 0
TellsOutcome outcome status next =
    (answer : Result (Unit {0}) Unasked) × (next ≡ calls.Went outcome answer ∷ []) × (status ≡ told_code answer)

-- the call on the handle is this call of its port, or none: status and out-struct tell what the port answers. A look
-- tells what the port is then (profile)
abbrev pub Tells : Held → HandleCall → List Call → Type 0
Tells p (ReadIp status) next = (next ≡ calls.ReadIp ∷ []) × (status ≡ DONE)
Tells p (WriteIp status) next = (next ≡ calls.WriteIp ∷ []) × (status ≡ DONE)
Tells p (ReadSa answer) next = (next ≡ []) × (answer ≡ pos (ports.sa_of p))
Tells p (WriteSa word status) next = (next ≡ calls.WriteSa word ∷ []) × (status ≡ DONE)
Tells p (Next before status after) next =
    (action : Action) × (bytes : List ℕ) × (q : Held) × (next ≡ calls.Next true action bytes ∷ [])
    × Becomes PolicyPicks (calls.Next true action bytes) p q
    × (status ≡ next_code action) × (after ≡ action_told action bytes (serial_told q) before)
Tells p (NextMessage before status after) next =
    (action : Action) × (bytes : List ℕ) × (q : Held)
    × (next ≡ calls.Next false action bytes ∷ calls.PutAside ∷ [])
    × Becomes PolicyPicks (calls.Next false action bytes) (put_aside p) q
    × (status ≡ next_code action) × (after ≡ action_told action bytes (serial_told q) before)
Tells p (WasRead bytes status) next =
    (answer : Result (Unit {0}) Unasked) × (next ≡ calls.WasRead bytes answer ∷ []) × (status ≡ told_code answer)
Tells p (Went number block status) next =
    MatchOption (outcome_given number block) ((next ≡ []) × (status ≡ BAD_OUTCOME))
    (λ outcome. TellsOutcome outcome status next)
Tells p (WentBy serial number block status) next =
    MatchOption (outcome_given number block) ((next ≡ []) × (status ≡ BAD_OUTCOME))
    (λ outcome. MatchBool (is_of_serial serial p.task p.serial) (TellsOutcome outcome status next)
    ((next ≡ []) × (status ≡ UNASKED)))
Tells p (LookAgain status) next = (next ≡ calls.LookAgain ∷ []) × (status ≡ DONE)
Tells p (Tick status) next = (next ≡ calls.Tick ∷ []) × (status ≡ DONE)
Tells p (VolumeCame unit medium status) next =
    (answer : Result (Unit {0}) VolumeFault) × (next ≡ calls.VolumeCame (medium_given medium) unit answer ∷ [])
    × (status ≡ put_code answer)
Tells p (VolumeWent unit status) next =
    (answer : Result (Unit {0}) NoUnit) × (next ≡ calls.VolumeWent unit answer ∷ []) × (status ≡ volume_code answer)
Tells p (Protect unit flag status) next =
    (answer : Result (Unit {0}) NoUnit) × (next ≡ calls.Protect (not (flag == 0)) unit answer ∷ [])
    × (status ≡ volume_code answer)
Tells p (Configured limits units answer limits' units') next =
    (next ≡ []) × TellsSettings p.controller.settings units answer limits' units'
Tells p (Hardware before status after) next =
    (next ≡ []) × (after ≡ hardware_told p.hardware) × (status ≡ DONE)
Tells p (State before status after) next = (next ≡ []) × (after ≡ state_told p) × (status ≡ DONE)
Tells p (Volume unit before status after) next =
    (next ≡ []) × (after ≡ volume_told (volume_of p unit) before) × (status ≡ seen_code (volume_of p unit))
Tells p (Begun before status after) next =
    (next ≡ []) × (after ≡ upcoming_told (begun_step p.controller) (serial_told p) before)
    × (status ≡ begin_code (begun_step p.controller))
Tells p (Look before answer after) next =
    (next ≡ []) × (after ≡ figures_told (figures_in p.controller) before)
    × (answer ≡ pos (length (figures_in p.controller)))
Tells p (Why number reference before answer after) next =
    (next ≡ []) × TellsHolders (connection_given number) reference p before answer after
Tells p (Resume bytes) next = (next ≡ []) × (restored_by bytes ≡ Ok p)

-- the same of calls, the last one first: each is of the port to which those before it led
abbrev pub TellsAll : Held → List HandleCall → List Call → Type 0
TellsAll start [] told = told ≡ []
TellsAll start (call ∷ earlier) told =
    (next : List Call) × (before : List Call) × (p : Held) × (told ≡ next ++ before)
    × Answered PolicyPicks start before p × Tells p call next × TellsAll start earlier before

-- ---- the promise

-- what is promised of a handle whose port answered so to these calls, and now holds this
pub record KeepsPortPromise (start : Held) (made : List HandleCall) (held : Held) : Type 0 where
  -- the calls on the handle are these of its port
  pub told : List Call
  pub tells : TellsAll start made told
  -- in their order, so that each law of ports is about them
  pub answered : Answered PolicyPicks start told held

-- the law: every handle on a port keeps the promise, whoever calls it, from any moment on; from an init on the port is
-- one that was made over a controller (profile)
abbrev pub PortHandlesKeepThePromise : Type 0
PortHandlesKeepThePromise = (made : List HandleCall) (start h : Handle) → AnsweredByHandle start made h
    → KeepsPortPromise start.held made h.held
