-- What is known of a message that was taken.
use Rattle.mscp_controller.proofs.Common.{◌≡◌, ℕ, ◌≤◌, Bool, true, false, not, ◌&&◌, List, length, arith, nat_eq, if◌then◌else◌, slice_index, Option, None, Ok, true≢false, false≢true, Command, SendFault, Sent, Event, Entry, Connection, Settings, num, class, is_immediate_class, command_of, is_queued, holds, refusal, Trace, connection_of, queues, sent_bytes, aborted_reference, taken_in, taken_unless, arrival, balance, outstanding, IsRight}

-- no reason to refuse it
pub record IsTaken (credit : ℕ) (references b : List ℕ) : Type 0 where
  pub low : 12 ≤ length b
  pub high : length b ≤ 64
  pub free : (credit ≡ 0) → ⊥
  pub last : (nat_eq credit 1 && not (is_immediate_class (class (slice_index b 8)))) ≡ false
  pub new : holds references (num b 0 4) ≡ false

pub refusal_none : (credit : ℕ) (references b : List ℕ)
    → refusal credit references b ≡ None → IsTaken credit references b
refusal_none credit references b h = search arith

unless_ok : (c : Settings) (via : Connection) (t : Trace) (command : Command) (s : Sent) (o : Option SendFault)
    → Ok s ≡ taken_unless c via t command o → (o ≡ None) × (s ≡ taken_in c via t command)
unless_ok c via t command s o h6 = grind (arith, true≢false)

pub record Arrives (c : Settings) (via : Connection) (t : Trace) (b : List ℕ) (s : Sent) : Type 0 where
  pub taken : IsTaken (balance c via t) (outstanding c via t) b
  pub is : s ≡ taken_in c via t (command_of b)

pub arrives : (c : Settings) (via : Connection) (t : Trace) (b : List ℕ) (s : Sent) → Ok s ≡ arrival c via t b
    → Arrives c via t b s
unfolding arrival
arrives c via t b s h =
    let u = unless_ok c via t (command_of b) s (refusal (balance c via t) (outstanding c via t) b) h in
    record { taken = refusal_none (balance c via t) (outstanding c via t) b u.0; is = u.1 }

-- what is known of a message that was queued
pub record Queues (c : Settings) (via : Connection) (t : Trace) (b : List ℕ) : Type 0 where
  pub taken : IsTaken (balance c via t) (outstanding c via t) b
  pub waits : is_queued c (command_of b) ≡ true

-- what a command becomes, if it is queued or isn't
abbrev pub taken_when : Settings → Connection → Trace → Command → Bool → Sent
taken_when c via t command q =
    if q then Sent.Queued command.reference else Sent.Answered command.reference (aborted_reference c via t command)

pub queued_right : (c : Settings) (t : Trace) (event : Event) (entry : Entry) → queues entry ≡ true
    → IsRight c t event entry → Queues c (connection_of event) t (sent_bytes event)
queued_right c t (Event.Send via b) (Entry.Sent other (Ok (Sent.Queued r))) q h = grind (arith, arrives, true≢false)
queued_right c t event entry h4 h5 = grind (arith, false≢true)
