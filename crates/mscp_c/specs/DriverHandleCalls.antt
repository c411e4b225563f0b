-- What somebody calls from C who holds a handle on a driver's account of its port, what is told, and what is promised.
use Rattle.std.specs.Prelude.{◌≡◌, ℕ, ℤ, pos, Bool, true, false, nat_lt, List, [], ◌∷◌, ◌++◌, length, drop, Result, Ok}
use Rattle.mscp_host.specs.declared.asked.Asked.{Asked}
use Rattle.mscp_host.specs.declared.heard.Heard.{Heard}
use Rattle.mscp_host.specs.declared.message.HearFault.{HearFault}
use Rattle.mscp_host.specs.declared.news.HostFault.{HostFault}
use Rattle.mscp_host.specs.declared.news.Poll.{Poll as Polled}
use Rattle.mscp_host.specs.declared.ticking.Watch.{Watch}
use Rattle.mscp_host.specs.Messages.{envelope_in}
use Rattle.mscp_host.specs.PortAccounts.{PortAccount, fresh_of_port, port_polls}
use Rattle.mscp_host.specs.PortHistories as hosts
use Rattle.mscp_host.specs.PortHistories.{PortAnswered, PortHistory}
use Rattle.mscp_host.specs.PortLaw.{KeepsCount, PortKeepsHistory}
use Rattle.mscp_host.specs.PortRestored.{port_restored}
use Rattle.mscp_host.specs.Watching.{ticks}
use Rattle.mscp_memory.specs.DriverHandles.{Handle, Held, with_held}
use Rattle.mscp_c.specs.declared.outs.HeardOut.{HeardOut}
use Rattle.mscp_c.specs.declared.outs.PacketOut.{PacketOut}
use Rattle.mscp_c.specs.declared.status.TheConstants.{CUT}
use Rattle.mscp_c.specs.Driven.{advice_code, asked_told, driver_hears, driver_submits, heard_code, heard_told, watch_told}
use Rattle.mscp_c.specs.Hosted.{PollTold, TellsSubmitted, message_read, poll_code}

-- ---- calls

-- a call on a driver's handle: what was passed; what each pointer pointed to, if there are some; the status or number
-- that was answered; and what the pointers point to then (profile)
pub data HandleCall : Type 0 where
  -- the bytes of a message
  Submit : List ℕ → ℤ → HandleCall
  -- a reference number
  Poll : ℕ → PacketOut → ℤ → PacketOut → HandleCall
  -- the bytes of an envelope and of the text behind it
  Hear : List ℕ → Watch → HeardOut → ℤ → Watch → HeardOut → HandleCall
  Tick : Watch → ℤ → Watch → HandleCall
  Credits : ℤ → HandleCall
  Outstanding : List Asked → ℤ → List Asked → HandleCall
  -- from here on a handle on other memory goes on, for which the account was restored from these bytes
  Resume : List ℕ → HandleCall

-- what a call on a handle that was made answers, and what is there then
abbrev pub AnswersHandle : Handle → HandleCall → Handle → Type 0
AnswersHandle old (Submit message status) new =
    (status ≡ (driver_submits old.held message).0) × (new ≡ with_held old (driver_submits old.held message).1)
AnswersHandle old (Poll reference before status after) new =
    (status ≡ poll_code (port_polls old.held reference).0) × PollTold (port_polls old.held reference).0 before after
    × (new ≡ with_held old (port_polls old.held reference).1)
AnswersHandle old (Hear bytes watch before status watch' after) new =
    (status ≡ heard_code (driver_hears old.held bytes).0) × (after ≡ heard_told (driver_hears old.held bytes).0 before)
    × (watch' ≡ watch_told (driver_hears old.held bytes).0 watch)
    × (new ≡ with_held old (driver_hears old.held bytes).1)
AnswersHandle old (Tick watch status watch') new =
    (status ≡ advice_code (ticks watch old.held).0) × (watch' ≡ (ticks watch old.held).1) × (new ≡ old)
AnswersHandle old (Credits answer) new = (answer ≡ pos old.held.credits) × (new ≡ old)
AnswersHandle old (Outstanding before answer after) new =
    (answer ≡ pos (length old.held.asked)) × (after ≡ asked_told old.held.asked before) × (new ≡ old)
AnswersHandle old (Resume bytes) new = (port_restored bytes ≡ Ok old.held) × (new.held ≡ old.held)

-- the same of calls, one after the other
abbrev pub AnsweredByHandle : Handle → List HandleCall → Handle → Type 0
AnsweredByHandle old [] new = new ≡ old
AnsweredByHandle old (call ∷ more) new = (next : Handle) × AnswersHandle old call next × AnsweredByHandle next more new

-- ---- what they tell

-- bytes that are cut change nothing; else what was heard is told
abbrev pub TellsHeard : Bool → List ℕ → Watch → HeardOut → ℤ → Watch → HeardOut → PortHistory → Type 0
TellsHeard true bytes watch before status watch' after next =
    (next ≡ []) × (status ≡ CUT) × (after ≡ before) × (watch' ≡ watch)
TellsHeard false bytes watch before status watch' after next =
    (answer : Result Heard HearFault) × (next ≡ hosts.Hear (envelope_in bytes) (drop 4 bytes) answer ∷ [])
    × (status ≡ heard_code answer) × (after ≡ heard_told answer before) × (watch' ≡ watch_told answer watch)

-- the call on the handle is the next moment of its host, or none: status and out-struct tell what the host answers. A
-- look tells what the host keeps then (profile)
abbrev pub Tells : PortAccount → HandleCall → PortHistory → Type 0
Tells p (Submit message status) next = TellsSubmitted hosts.Submit (message_read message) status next
Tells p (Poll reference before status after) next =
    (answer : Result Polled HostFault) × (next ≡ hosts.Ask reference answer ∷ [])
    × (status ≡ poll_code answer) × PollTold answer before after
Tells p (Hear bytes watch before status watch' after) next =
    TellsHeard (nat_lt (length bytes) 4) bytes watch before status watch' after next
Tells p (Tick watch status watch') next =
    (next ≡ []) × (status ≡ advice_code (ticks watch p).0) × (watch' ≡ (ticks watch p).1)
Tells p (Credits answer) next = (next ≡ []) × (answer ≡ pos p.credits)
Tells p (Outstanding before answer after) next =
    (next ≡ []) × (answer ≡ pos (length p.asked)) × (after ≡ asked_told p.asked before)
Tells p (Resume bytes) next = (next ≡ []) × (port_restored bytes ≡ Ok p)

-- the same of calls, one after the other: each is of the host to which the moments before it led
abbrev pub TellsAll : PortHistory → List HandleCall → PortHistory → Type 0
TellsAll so_far [] told = told ≡ []
TellsAll so_far (call ∷ more) told =
    (next : PortHistory) × (rest : PortHistory) × (p : PortAccount) × (told ≡ next ++ rest)
    × PortAnswered fresh_of_port so_far p × Tells p call next × TellsAll (so_far ++ next) more rest

-- ---- the promise

-- what is promised of a handle whose host answered so to these calls, and now holds this
pub record KeepsDriverPromise (made : List HandleCall) (held : Held) : Type 0 where
  -- the calls on the handle are this history of a host of a port
  pub told : PortHistory
  pub tells : TellsAll [] made told
  -- which says all that it keeps, and all that it says of ends
  pub keeps : PortKeepsHistory told held
  -- and how its credits and commands are counted
  pub counts : KeepsCount fresh_of_port told held

-- the law: every handle on a driver's account keeps the promise, whoever calls it, from an init on (profile)
abbrev pub DriverHandlesKeepTheirHistory : Type 0
DriverHandlesKeepTheirHistory =
    (made : List HandleCall) (old new : Handle) → old.held ≡ fresh_of_port
    → AnsweredByHandle old made new → KeepsDriverPromise made new.held
