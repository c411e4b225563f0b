-- What a host of a port keeps, and how each call changes it. Its credits come in envelopes, bit by bit (UQSSP, "Flow
-- Control").
--
-- What is said of a message is the first of these that holds, and beside each stands the definition that decides it:
--
--     a refusal      it is no message, or the end of no outstanding command          heard_of, ends_of
--     Credits, Logged, Available, Attention, by the message's type and code          heard_of, attention_of
--     Refused        the end of the poll in flight, and it tells no figure           news_said
--     Late, Reset, Lost, First, Progress, as of every host                           news_said, Accounts.news_with
--     MovedTooMuch   an end that tells more bytes than were asked for                ended_of
--     Ended          any other end                                                   ended_of
use Rattle.std.specs.Prelude.{ℕ, ◌+◌, ◌-◌, min, Bool, false, not, ◌&&◌, ◌||◌, nat_eq, nat_lt, if◌then◌else◌, List, [], ◌∷◌, ◌++◌, find, Option, Some, None, is_none, is_some, Result, Ok, Err}
use Rattle.arrayvec.specs.ArrayVec.{ArrayVec}
use Rattle.mscp_packet.specs.Commands.{opcode_byte}
use Rattle.mscp_packet.specs.EndcodeBytes as endcodes
use Rattle.mscp_packet.specs.StatusCodes as codes
use Rattle.mscp_packet.specs.Statuses.{code_of}
use Rattle.mscp_packet.specs.declared.command.Command.{Command}
use Rattle.mscp_packet.specs.declared.command.Order.{Order}
use Rattle.mscp_packet.specs.declared.command.Order.TheVariants as orders
use Rattle.mscp_packet.specs.declared.end.End.{End}
use Rattle.mscp_packet.specs.declared.end.EndBody.{EndBody}
use Rattle.mscp_packet.specs.declared.end.EndBody.TheVariants as bodies
use Rattle.mscp_host.specs.declared.asked.Asked.{Asked}
use Rattle.mscp_host.specs.declared.envelope.Envelope.{Envelope}
use Rattle.mscp_host.specs.declared.heard.Heard.{Heard}
use Rattle.mscp_host.specs.declared.heard.Heard.TheVariants as heards
use Rattle.mscp_host.specs.declared.message.HearFault.{HearFault}
use Rattle.mscp_host.specs.declared.message.HearFault.TheVariants as faults
use Rattle.mscp_host.specs.declared.message.Message.{Message}
use Rattle.mscp_host.specs.declared.message.Message.TheVariants as messages
use Rattle.mscp_host.specs.declared.news.HostFault.{HostFault}
use Rattle.mscp_host.specs.declared.news.HostFault.TheVariants as refusals
use Rattle.mscp_host.specs.declared.news.News.{News}
use Rattle.mscp_host.specs.declared.news.News.TheVariants as news
use Rattle.mscp_host.specs.declared.news.Poll.{Poll}
use Rattle.mscp_host.specs.declared.news.Poll.TheVariants as polls
use Rattle.mscp_host.specs.declared.submission.Submission.{Submission}
use Rattle.mscp_host.specs.declared.watch.Watch.{Watch}
use Rattle.mscp_host.specs.Accounts.{Account, answered, fresh, is_about_polled, is_code_of, is_immediate, news_with, oldest, poll_of, polls_oldest, received, submits}
use Rattle.mscp_host.specs.Messages.{message_in}

-- what a host of 64 credits keeps; the commands whose ends weren't heard, in the order in which they were sent; the
-- credits that are free; and whether more were told than are kept
pub record PortAccount : Type 0 where
  pub account : Account
  pub asked : List Asked
  pub credits : ℕ
  pub is_over : Bool

-- a host has one credit before anything is told (UQSSP, "Flow Control"), and up to 64 commands outstanding (profile)
abbrev pub fresh_of_port : PortAccount
fresh_of_port = record { account = fresh 64; asked = []; credits = 1; is_over = false }

-- ---- commands

-- how many bytes an order asks for
abbrev pub bytes_of : Order → ℕ
bytes_of (orders.Move kind count block) = count
bytes_of order = 0

abbrev pub asked_of : Command → Asked
asked_of command = record {
  reference = command.reference;
  unit = command.unit;
  opcode = opcode_byte command.order;
  bytes = bytes_of command.order;
}

-- the command has this reference number
abbrev pub is_of : ℕ → Asked → Bool
is_of reference a = nat_eq a.reference reference

-- the list without the first that passes a test
abbrev pub without_by : {X : Type 0} → (X → Bool) → List X → List X
without_by p [] = []
without_by p (x ∷ xs) = if p x then xs else x ∷ without_by p xs

-- why the credits that were told are too few for a command of this opcode byte: the last is kept for those that are
-- answered when they arrive (manual, "Flow Control")
abbrev pub credit_fault : ℕ → ℕ → Option HostFault
credit_fault credits opcode =
    if nat_eq credits 0 then Some refusals.NoCredit else (
    if nat_eq credits 1 && not (is_immediate opcode) then Some refusals.LastCredit else None)

-- a command was sent: it takes a credit
abbrev pub noted : PortAccount → Account → Asked → PortAccount
noted p a asked = record { account = a; asked = p.asked ++ asked ∷ []; credits = p.credits - 1; is_over = p.is_over }

-- what is answered where a command is to be sent, and what is kept then. A refusal changes nothing
abbrev pub submitted_with : PortAccount → Command → Result (ArrayVec ℕ) HostFault × Account
    → Result (ArrayVec ℕ) HostFault × PortAccount
submitted_with p command (Err fault, a) = (Err fault, p)
submitted_with p command (Ok message, a) = (Ok message, noted p a (asked_of command))

abbrev pub submits_unless_faulty : PortAccount → Command → Option HostFault
    → Result (ArrayVec ℕ) HostFault × PortAccount
submits_unless_faulty p command (Some fault) = (Err fault, p)
submits_unless_faulty p command None = submitted_with p command (submits p.account command)

abbrev pub port_submits : PortAccount → Command → Result (ArrayVec ℕ) HostFault × PortAccount
port_submits p command = submits_unless_faulty p command (credit_fault p.credits (opcode_byte command.order))

-- ---- a poll

-- a poll is to be sent: none is in flight, and a command is outstanding that isn't answered when it arrives
abbrev pub is_to_poll : Account → Bool
is_to_poll a = is_none a.watch && is_some (oldest a)

-- what is kept of a poll that was sent
abbrev pub noted_poll : PortAccount → Account → ℕ → Option Submission → PortAccount
noted_poll p a reference None = p
noted_poll p a reference (Some s) = noted p a (asked_of (poll_of reference s))

abbrev pub polled_with : PortAccount → ℕ → Result Poll HostFault × Account → Result Poll HostFault × PortAccount
polled_with p reference (Ok (polls.Ask message), a) =
    (Ok (polls.Ask message), noted_poll p a reference (oldest p.account))
polled_with p reference (answer, a) = (answer, p)

-- what is answered where the oldest command is to be polled, and what is kept then
abbrev pub port_polls : PortAccount → ℕ → Result Poll HostFault × PortAccount
port_polls p reference =
    if nat_eq p.credits 0 && is_to_poll p.account then (Err refusals.NoCredit, p)
    else polled_with p reference (polls_oldest p.account reference)

-- ---- what is heard

-- the status is Success: its low five bits are 0 (manual)
abbrev pub is_success : ℕ → Bool
is_success status = nat_eq (code_of status) codes.success

-- an end as the polls read it: one of another status than Success tells no figure, whatever its body
abbrev pub as_read : End → End
as_read e = if is_success e.status then e else record e { code = endcodes.unknown; body = bodies.Bare }

-- the poll in flight has this number
abbrev pub is_poll_of : Option Watch → ℕ → Bool
is_poll_of None reference = false
is_poll_of (Some w) reference = nat_eq w.reference reference

-- the end tells that more bytes were moved than were asked for
abbrev pub is_too_much : EndBody → ℕ → Bool
is_too_much (bodies.Moved count) bytes = nat_lt bytes count
is_too_much body bytes = false

-- what the end of a command says that is no poll
abbrev pub ended_of : End → Asked → Heard
ended_of e asked = if is_too_much e.body asked.bytes then heards.MovedTooMuch e asked else heards.Ended e asked

-- what an end says, of which a host says that, and which is or isn't that of the poll in flight
abbrev pub news_said : Bool → End → Asked → News → Heard
news_said is_poll e asked (news.Ended read) = if is_poll then heards.Refused e else ended_of e asked
news_said is_poll e asked (news.Progress figure) = heards.Progress figure
news_said is_poll e asked (news.First figure) = heards.First figure
news_said is_poll e asked news.Late = heards.Late
news_said is_poll e asked news.Reset = heards.Reset
news_said is_poll e asked news.Lost = heards.Lost

-- what an end says of the command that was asked
abbrev pub end_says : PortAccount → End → Asked → Heard
end_says p e asked =
    news_said (is_poll_of p.account.watch e.reference) e asked
    (news_with p.account (as_read e) (answered p.account.watch (as_read e)))

-- what is kept once an end was heard: its command is outstanding no more
abbrev pub ended : PortAccount → End → PortAccount
ended p e = record p {
  account = received p.account (as_read e);
  asked = without_by (is_of e.reference) p.asked;
}

-- these credits were told. At most 65535 are kept
abbrev pub granted : ℕ → PortAccount → PortAccount
granted credits p = record p {
  credits = min (p.credits + credits) 65535;
  is_over = p.is_over || nat_lt 65535 (p.credits + credits);
}

-- the end may be that of this command: by its endcode, and where it answers a poll, by what it is about
abbrev pub may_be_of : PortAccount → End → Asked → Bool
may_be_of p e asked =
    is_code_of e.code asked.opcode && is_about_polled p.account.watch (answered p.account.watch (as_read e))

-- what is said of an end, and what is kept then
abbrev pub ends_of : PortAccount → ℕ → End → Option Asked → Result Heard HearFault × PortAccount
ends_of p credits e None = (Err faults.Unknown, p)
ends_of p credits e (Some asked) =
    if may_be_of p e asked then (Ok (end_says p e asked), granted credits (ended p e)) else (Err faults.Unknown, p)

-- what an attention message says (manual, "Attention Messages")
abbrev pub attention_of : ℕ → ℕ → Heard
attention_of code unit =
    if nat_eq code endcodes.available_attention then heards.Available unit else heards.Attention code unit

-- what is said of a message that tells these credits, and what is kept then. A refusal changes nothing
abbrev pub heard_of : PortAccount → ℕ → Result Message HearFault → Result Heard HearFault × PortAccount
heard_of p credits (Err fault) = (Err fault, p)
heard_of p credits (Ok (messages.End e)) = ends_of p credits e (find (is_of e.reference) p.asked)
heard_of p credits (Ok (messages.Attention code unit)) = (Ok (attention_of code unit), granted credits p)
heard_of p credits (Ok messages.Datagram) = (Ok heards.Logged, granted credits p)
heard_of p credits (Ok messages.Credits) = (Ok (heards.Credits credits), granted credits p)

-- what is said of an envelope and the bytes behind it, and what is kept then
abbrev pub hears : PortAccount → Envelope → List ℕ → Result Heard HearFault × PortAccount
hears p v b = heard_of p v.credits (message_in v b)
