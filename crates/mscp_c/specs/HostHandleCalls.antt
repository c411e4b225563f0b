-- What somebody calls from C who holds a handle on a host, what is told, and what is promised of it.
use Rattle.std.specs.Prelude.{◌≡◌, ℕ, ℤ, pos, List, [], ◌∷◌, ◌++◌, length, Result, Ok}
use Rattle.mscp_host.specs.declared.news.HostFault.{HostFault}
use Rattle.mscp_host.specs.declared.news.News.{News}
use Rattle.mscp_host.specs.declared.news.Poll.{Poll as Asked}
use Rattle.mscp_host.specs.Accounts.{balance, fresh, heard, polls_oldest}
use Rattle.mscp_host.specs.Histories as hosts
use Rattle.mscp_host.specs.Histories.{History, account_at}
use Rattle.mscp_host.specs.Law.{KeepsHistory}
use Rattle.mscp_host.specs.Restored.{restored}
use Rattle.mscp_memory.specs.HostHandles.{Handle, Held, with_held}
use Rattle.mscp_c.specs.declared.outs.NewsOut.{NewsOut}
use Rattle.mscp_c.specs.declared.outs.PacketOut.{PacketOut}
use Rattle.mscp_c.specs.Hosted.{PollTold, TellsSubmitted, message_read, news_code, news_told, poll_code, submits_message}

-- ---- calls

-- a call on a host's handle: what was passed; what the out-pointer pointed to, if there is one; the status or number
-- that was answered; and what the out-pointer points to then (profile)
pub data HandleCall : Type 0 where
  -- the bytes of a message
  Submit : List ℕ → ℤ → HandleCall
  -- a reference number
  Poll : ℕ → PacketOut → ℤ → PacketOut → HandleCall
  -- the bytes of an end
  Receive : List ℕ → NewsOut → ℤ → NewsOut → HandleCall
  Balance : ℤ → HandleCall
  -- from here on a handle on other memory goes on, for which the host was restored from these bytes
  Resume : List ℕ → HandleCall

-- what a call on a handle that was made answers, and what is there then
abbrev pub AnswersHandle : Handle → HandleCall → Handle → Type 0
AnswersHandle old (Submit message status) new =
    (status ≡ (submits_message old.held message).0) × (new ≡ with_held old (submits_message old.held message).1)
AnswersHandle old (Poll reference before status after) new =
    (status ≡ poll_code (polls_oldest old.held reference).0) × PollTold (polls_oldest old.held reference).0 before after
    × (new ≡ with_held old (polls_oldest old.held reference).1)
AnswersHandle old (Receive bytes before status after) new =
    (status ≡ news_code (heard old.held bytes).0) × (after ≡ news_told (heard old.held bytes).0 before)
    × (new ≡ with_held old (heard old.held bytes).1)
AnswersHandle old (Balance answer) new = (answer ≡ pos (balance old.held)) × (new ≡ old)
AnswersHandle old (Resume bytes) new = (restored bytes ≡ Ok old.held) × (new.held ≡ old.held)

-- the same of calls, one after the other
abbrev pub AnsweredByHandle : Handle → List HandleCall → Handle → Type 0
AnsweredByHandle old [] new = new ≡ old
AnsweredByHandle old (call ∷ more) new = (next : Handle) × AnswersHandle old call next × AnsweredByHandle next more new

-- ---- what they tell

-- after this history of a host of so many credits the call on its handle is the next moment of it, or is none and tells
-- what is so then: status, number and out-struct tell what the host answers (profile)
abbrev pub Tells : ℕ → History → HandleCall → History → Type 0
Tells credits so_far (Submit message status) next = TellsSubmitted hosts.Submit (message_read message) status next
Tells credits so_far (Poll reference before status after) next =
    (answer : Result Asked HostFault) × (next ≡ hosts.Ask reference answer ∷ [])
    × (status ≡ poll_code answer) × PollTold answer before after
Tells credits so_far (Receive bytes before status after) next =
    (answer : Result News HostFault) × (next ≡ hosts.Receive bytes answer ∷ [])
    × (status ≡ news_code answer) × (after ≡ news_told answer before)
Tells credits so_far (Balance answer) next =
    (next ≡ []) × (answer ≡ pos (balance (account_at credits so_far (length so_far))))
Tells credits so_far (Resume bytes) next =
    (next ≡ []) × (restored bytes ≡ Ok (account_at credits so_far (length so_far)))

-- the same of calls, one after the other
abbrev pub TellsAll : ℕ → History → List HandleCall → History → Type 0
TellsAll credits so_far [] told = told ≡ []
TellsAll credits so_far (call ∷ more) told =
    (next : History) × (rest : History) × (told ≡ next ++ rest)
    × Tells credits so_far call next × TellsAll credits (so_far ++ next) more rest

-- ---- the promise

-- what is promised of a handle whose host of so many credits answered so to these calls, and now holds this
pub record KeepsHostPromise (credits : ℕ) (made : List HandleCall) (held : Held) : Type 0 where
  -- the calls on the handle are this history of a host
  pub told : History
  pub tells : TellsAll credits [] made told
  -- which says all that it keeps, and all that it says of ends
  pub keeps : KeepsHistory credits told held

-- the law: every handle on a host keeps the promise, whoever calls it, from an init on (profile)
abbrev pub HostHandlesKeepTheirHistory : Type 0
HostHandlesKeepTheirHistory =
    (credits : ℕ) (made : List HandleCall) (old new : Handle) → old.held ≡ fresh credits
    → AnsweredByHandle old made new → KeepsHostPromise credits made new.held
