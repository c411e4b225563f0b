-- What a moment of a host of a port is to the host of 64 credits in it.
use Rattle.mscp_host.proofs.Common.{ArrayVec, Asked, Bool, Command, End, Envelope, Err, Hear, HearFault, Heard, HostFault, List, Message, Ok, Option, PortAccount, PortAnswers, PortMoment, Result, Resume, Some, Submission, [], and_parts, answered, arith, as_read, asked_of, end_says, ended, ends_of, false≢true, find, granted, if◌then◌else◌, is_about_polled, is_of, may_be_of, message_in, news_with, oldest, poll_of, polls_oldest, received, refl, seen, submits, submits_unless_faulty, submitted_with, true, without_by, ℕ, ◌++◌, ◌∷◌, ◌≡◌}
use Rattle.mscp_host.specs.Histories as hosts
use Rattle.mscp_host.specs.declared.message.Message.TheVariants as messages
use Rattle.mscp_host.specs.declared.news.Poll.TheVariants as polls
use Rattle.mscp_host.specs.declared.message.HearFault.TheVariants as faults
use Rattle.mscp_host.specs.PortAccounts.{heard_of}
use Rattle.mscp_host.proofs.PortBack.{resumed}
use Rattle.mscp_host.specs.PortHistories.{Ask, Other, Submit}

-- nothing of its own
pub record IsQuiet (old : PortAccount) (m : PortMoment) (new : PortAccount) : Type 0 where
  pub is : seen m ≡ hosts.Other
  pub account : new.account ≡ old.account
  pub asked : new.asked ≡ old.asked

pub record IsSubmitted (old : PortAccount) (m : PortMoment) (new : PortAccount) : Type 0 where
  pub command : Command
  pub message : ArrayVec ℕ
  pub is : seen m ≡ hosts.Submit command (Ok message)
  pub first : (submits old.account command).0 ≡ Ok message
  pub account : new.account ≡ (submits old.account command).1
  pub asked : new.asked ≡ old.asked ++ asked_of command ∷ []

pub record IsAsked (old : PortAccount) (m : PortMoment) (new : PortAccount) : Type 0 where
  pub reference : ℕ
  pub message : ArrayVec ℕ
  pub polled : Submission
  pub is : seen m ≡ hosts.Ask reference (Ok (polls.Ask message))
  pub first : (polls_oldest old.account reference).0 ≡ Ok (polls.Ask message)
  pub account : new.account ≡ (polls_oldest old.account reference).1
  pub oldest_is : oldest old.account ≡ Some polled
  pub asked : new.asked ≡ old.asked ++ asked_of (poll_of reference polled) ∷ []

pub record IsEnded (old : PortAccount) (m : PortMoment) (new : PortAccount) : Type 0 where
  pub end : End
  pub command : Asked
  pub is : seen m ≡ hosts.Settle (as_read end)
      (news_with old.account (as_read end) (answered old.account.watch (as_read end)))
  pub found : find (is_of end.reference) old.asked ≡ Some command
  pub about : is_about_polled old.account.watch (answered old.account.watch (as_read end)) ≡ true
  pub account : new.account ≡ received old.account (as_read end)
  pub asked : new.asked ≡ without_by (is_of end.reference) old.asked

pub data Kind (old : PortAccount) (m : PortMoment) (new : PortAccount) : Type 0 where
  Stays : IsQuiet old m new → Kind old m new
  Submits : IsSubmitted old m new → Kind old m new
  Polls : IsAsked old m new → Kind old m new
  Ends : IsEnded old m new → Kind old m new

same : (old : PortAccount) (m : PortMoment) (new : PortAccount) → seen m ≡ hosts.Other → new ≡ old → Kind old m new
same old m new s e = grind arith

-- ---- a command

submit_with : (old : PortAccount) (command : Command) (answer : Result (ArrayVec ℕ) HostFault) (new : PortAccount)
    (r : Result (ArrayVec ℕ) HostFault) → (submits old.account command).0 ≡ r
    → submitted_with old command (r, (submits old.account command).1) ≡ (answer, new)
    → Kind old (Submit command answer) new
submit_with old command answer new o f e = grind (arith, same)

submit_kind : (old : PortAccount) (command : Command) (answer : Result (ArrayVec ℕ) HostFault) (new : PortAccount)
    (o : Option HostFault) → submits_unless_faulty old command o ≡ (answer, new) → Kind old (Submit command answer) new
submit_kind old command answer new o e = grind (arith, same, submit_with)

-- ---- a message

abbrev refuses : PortAccount → HearFault → Result Heard HearFault × PortAccount
refuses old fault = (Err fault, old)

abbrev tells : ℕ → Heard → PortAccount → Result Heard HearFault × PortAccount
tells credits heard new = (Ok heard, granted credits new)

refused : (old : PortAccount) (v : Envelope) (b : List ℕ) (answer : Result Heard HearFault) (new : PortAccount)
    (fault : HearFault) → refuses old fault ≡ (answer, new) → Kind old (Hear v b answer) new
refused old v b answer new fault e = grind (arith, same)

heard_none : (old : PortAccount) (v : Envelope) (b : List ℕ) (answer : Result Heard HearFault) (new : PortAccount)
    (heard : Heard) → seen (Hear v b (Ok heard)) ≡ hosts.Other → tells v.credits heard old ≡ (answer, new)
    → Kind old (Hear v b answer) new
heard_none old v b answer new heard none e = grind arith

-- what it says of an end is what is seen of it
end_kind : (old : PortAccount) (v : Envelope) (b : List ℕ) (answer : Result Heard HearFault) (new : PortAccount)
    (x : End) (asked : Asked) (may : Bool) → message_in v b ≡ Ok (messages.End x)
    → find (is_of x.reference) old.asked ≡ Some asked → may_be_of old x asked ≡ may
    → (if may then tells v.credits (end_says old x asked) (ended old x) else refuses old faults.Unknown)
    ≡ (answer, new) → Kind old (Hear v b answer) new
end_kind old v b answer new x asked o m found may e = grind (arith, and_parts, refused)

ends_kind : (old : PortAccount) (v : Envelope) (b : List ℕ) (answer : Result Heard HearFault) (new : PortAccount)
    (x : End) (o : Option Asked) → message_in v b ≡ Ok (messages.End x) → find (is_of x.reference) old.asked ≡ o
    → ends_of old v.credits x o ≡ (answer, new) → Kind old (Hear v b answer) new
ends_kind old v b answer new x o m f e = grind (arith, refused, end_kind)

hear_kind : (old : PortAccount) (v : Envelope) (b : List ℕ) (answer : Result Heard HearFault) (new : PortAccount)
    (r : Result Message HearFault) → message_in v b ≡ r → heard_of old v.credits r ≡ (answer, new)
    → Kind old (Hear v b answer) new
hear_kind old v b answer new (Err fault) m e = refused old v b answer new fault e
hear_kind old v b answer new o m e = grind (arith, ends_kind, heard_none)

pub kind : (old : PortAccount) (m : PortMoment) (new : PortAccount) → PortAnswers old m new → Kind old m new
kind old (Submit command answer) new e = submit_kind old command answer new _ e
kind old (Ask n answer) new e = grind (arith, same, false≢true, false≢true)
kind old (Hear v b answer) new e = hear_kind old v b answer new _ refl e
kind old (Resume b) new e = same old (Resume b) new refl (resumed old new b e)
kind old Other new e = same old Other new refl e
