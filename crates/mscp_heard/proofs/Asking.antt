-- What a host sends: a command, or a poll of the oldest one; and what it refuses to send.
use Rattle.mscp_heard.proofs.Common.{Account, ArrayVec, Bool, Command, Err, HostFault, List, None, Ok, Option, Poll, PortAccount, Result, Some, Submission, [], arith, asked_of, command_bytes, credit_fault, false, has_reference, list_any, nat_eq, none-some, oldest, opcode_byte, poll_of, port_polls, port_submits, refusal, submission_of, submits_unless, submits_unless_faulty, submitted_with, true, ℕ, ◌++◌, ◌∷◌, ◌≡◌}
use Rattle.mscp_host.specs.declared.news.Poll.TheVariants as polls

pub not_doubled : (a : Account) (opcode n : ℕ) → refusal a opcode n ≡ None
    → list_any (has_reference n) a.outstanding ≡ false
not_doubled a opcode n e = grind (arith, none-some)

-- a command was sent as this message
pub record IsSent (old new : PortAccount) (message : ArrayVec ℕ) (c : Command) : Type 0 where
  pub free : list_any (has_reference c.reference) old.account.outstanding ≡ false
  pub is : message.items ≡ command_bytes c
  pub asked : new.asked ≡ old.asked ++ asked_of c ∷ []
  pub outstanding : new.account.outstanding ≡ old.account.outstanding ++ submission_of c ∷ []

pub submit_is : (old new : PortAccount) (c : Command) (message : ArrayVec ℕ) → port_submits old c ≡ (Ok message, new)
    → IsSent old new message c × (new.account.watch ≡ old.account.watch)
submit_is old new c message e = by (credit_fault old.credits (opcode_byte c.order)) e
  where
    So : Type 0
    So = IsSent old new message c × (new.account.watch ≡ old.account.watch)

    items : Result (ArrayVec ℕ) HostFault × PortAccount → List ℕ
    items (Ok b, x) = b.items
    items (Err f, x) = []

    judged : (o : Option HostFault) → refusal old.account (opcode_byte c.order) c.reference ≡ o
        → submitted_with old c (submits_unless old.account c o) ≡ (Ok message, new) → So
    judged o r h = grind (arith, not_doubled, items)

    by : (o : Option HostFault) → submits_unless_faulty old c o ≡ (Ok message, new) → So
    by o h = grind (arith, judged)

pub submit_same : (old new : PortAccount) (c : Command) (fault : HostFault)
    → port_submits old c ≡ (Err fault, new) → new ≡ old
submit_same old new c fault e = grind arith

-- ---- a poll

abbrev pub is_ask : Result Poll HostFault → Bool
is_ask (Ok (polls.Ask message)) = true
is_ask other = false

-- it is about the oldest one
pub poll_is : (old new : PortAccount) (n : ℕ) (message : ArrayVec ℕ)
    → port_polls old n ≡ (Ok (polls.Ask message), new)
    → (s : Submission) × (oldest old.account ≡ Some s) × IsSent old new message (poll_of n s)
    × (new.account.watch ≡ Some (record { reference = n; polled = s.reference; is_outstanding = true }))
poll_is old new n message e = grind (arith, nat_eq, not_doubled)

pub poll_same : (old new : PortAccount) (n : ℕ) (answer : Result Poll HostFault) → is_ask answer ≡ false
    → port_polls old n ≡ (answer, new) → new ≡ old
poll_same old new n answer none e = grind (arith, nat_eq)
