-- What a host keeps, and how each call changes it.
--
-- What is said of bytes that are received is the first of these that holds (profile), and beside each stands the
-- definition that decides it:
--
--     Unreadable   the bytes are no end                                          heard_in, end_in
--     Unknown      no submission of that number is outstanding, or the end
--                  can't be that of this one                                     heard_of, may_end
--     Ended        the end answers no poll                                       news_with, answered
--     Late         it answers the poll of a command whose end was received       news_with, polled_is_outstanding
--     Reset        the figure is no lower than the last of this command          news_of_figure
--     Lost         the figure is 0                                               news_of_figure
--     First        the command's first figure                                    news_of_figure
--     Progress     a figure that fell                                            news_of_figure
use Rattle.std.specs.Prelude.{ℕ, ◌+◌, ◌-◌, Bool, true, false, not, ◌&&◌, ◌||◌, nat_eq, nat_lt, nat_le, if◌then◌else◌, List, [], ◌∷◌, ◌++◌, length, find, slice_index, Option, Some, None, is_some, Result, Ok, Err}
use Rattle.std.specs.List.{list_any}
use Rattle.arrayvec.specs.ArrayVec.{ArrayVec}
use Rattle.mscp_packet.specs.EndcodeBytes as endcodes
pub use Rattle.mscp_packet.specs.Opcodes.{is_immediate}
use Rattle.mscp_packet.specs.Commands.{command_bytes, opcode_byte}
use Rattle.mscp_packet.specs.Ends.{kind_of_code, reading_with}
use Rattle.mscp_packet.specs.declared.command.Command.{Command}
use Rattle.mscp_packet.specs.declared.command.Order.TheVariants as orders
use Rattle.mscp_packet.specs.declared.end.End.{End}
use Rattle.mscp_packet.specs.declared.end.EndBody.{EndBody}
use Rattle.mscp_packet.specs.declared.end.EndBody.TheVariants as bodies
use Rattle.mscp_packet.specs.declared.reading.EndFault.{EndFault}
use Rattle.mscp_packet.specs.declared.reading.EndFault.TheVariants as ends
use Rattle.mscp_host.specs.declared.submission.Submission.{Submission}
use Rattle.mscp_host.specs.declared.watch.Watch.{Watch}
use Rattle.mscp_host.specs.declared.news.HostFault.{HostFault}
use Rattle.mscp_host.specs.declared.news.HostFault.TheVariants as faults
use Rattle.mscp_host.specs.declared.news.News.{News}
use Rattle.mscp_host.specs.declared.news.News.TheVariants as news
use Rattle.mscp_host.specs.declared.news.Poll.{Poll}
use Rattle.mscp_host.specs.declared.news.Poll.TheVariants as polls

-- the credits, the submissions whose ends weren't received, oldest first, and the poll in flight, if there is one
pub record Account : Type 0 where
  pub credits : ℕ
  pub outstanding : List Submission
  pub watch : Option Watch

-- a host that sent nothing so far
abbrev pub fresh : ℕ → Account
fresh credits = record { credits = credits; outstanding = []; watch = None }

-- ---- submissions

-- the submission has this reference number
abbrev pub has_reference : ℕ → Submission → Bool
has_reference reference s = nat_eq s.reference reference

-- the submission of a command, of which nothing was told yet
abbrev pub submission_of : Command → Submission
submission_of command = record {
  reference = command.reference;
  unit = command.unit;
  opcode = opcode_byte command.order;
  told = None;
}

-- the credits that are free (manual, "Flow Control")
abbrev pub balance : Account → ℕ
balance a = a.credits - length a.outstanding

-- why a command of this opcode byte and reference number may not be sent, if it may not: the first that holds (manual;
-- the order, and that the last credit isn't for an unknown opcode, are the profile's)
abbrev pub refusal : Account → ℕ → ℕ → Option HostFault
refusal a opcode reference =
    if nat_eq (balance a) 0 then Some faults.NoCredit else (
    if nat_eq (balance a) 1 && not (is_immediate opcode) then Some faults.LastCredit else (
    if list_any (has_reference reference) a.outstanding then Some faults.Doubled else None))

-- what is kept once a command was sent: it is outstanding, behind the others
abbrev pub submitted : Account → Command → Account
submitted a command = record a { outstanding = a.outstanding ++ submission_of command ∷ [] }

-- what is answered to a submission, and what is kept then: the message, or why not, and then nothing changes
abbrev pub submits_unless : Account → Command → Option HostFault → Result (ArrayVec ℕ) HostFault × Account
submits_unless a command (Some fault) = (Err fault, a)
submits_unless a command None = (Ok (record { items = command_bytes command }), submitted a command)

-- what is answered where a command is to be sent, and what is kept then
abbrev pub submits : Account → Command → Result (ArrayVec ℕ) HostFault × Account
submits a command = submits_unless a command (refusal a (opcode_byte command.order) command.reference)

-- ---- a poll

-- the command that a poll is about: the oldest that isn't answered when it arrives (manual, "Host Command Timeouts")
abbrev pub oldest : Account → Option Submission
oldest a = find (λ s. not (is_immediate s.opcode)) a.outstanding

-- the poll of a submission
abbrev pub poll_of : ℕ → Submission → Command
poll_of reference s = record { reference = reference; unit = s.unit; order = orders.Status s.reference }

-- what is kept once the poll of a submission was sent: it is outstanding too, and in flight
abbrev pub watching : Account → ℕ → Submission → Account
watching a reference s =
    record (submitted a (poll_of reference s)) {
      watch =
          Some (record { reference = reference; polled = s.reference; is_outstanding = true });
    }

-- what is answered to a poll of a submission, and what is kept then: its message, or why it may not be sent, and then
-- nothing changes
abbrev pub asks_unless : Account → ℕ → Submission → Option HostFault → Result Poll HostFault × Account
asks_unless a reference s (Some fault) = (Err fault, a)
asks_unless a reference s None =
    (Ok (polls.Ask (record { items = command_bytes (poll_of reference s) })), watching a reference s)

-- what is answered to a poll of this submission, if there is one, and what is kept then
abbrev pub asks : Account → ℕ → Option Submission → Result Poll HostFault × Account
asks a reference None = (Ok polls.Nothing, a)
asks a reference (Some s) = asks_unless a reference s (refusal a (opcode_byte (poll_of reference s).order) reference)

-- what is answered where the oldest command is to be polled under this reference number, and what is kept then: one
-- poll at a time (profile)
abbrev pub polls_oldest : Account → ℕ → Result Poll HostFault × Account
polls_oldest a reference = if is_some a.watch then (Ok polls.Busy, a) else asks a reference (oldest a)

-- ---- an end

-- what bytes are read as: an end of 12 to 64 bytes (profile)
abbrev pub end_in : List ℕ → Result End EndFault
end_in b =
    if nat_le 12 (length b) && nat_le (length b) 64 then reading_with (kind_of_code (slice_index b 8)) b
    else Err ends.Length

-- the endcode is that of this opcode byte (manual, "End Messages"), or that of an unknown opcode (profile)
abbrev pub is_code_of : ℕ → ℕ → Bool
is_code_of code opcode = nat_eq code endcodes.unknown || nat_eq code (opcode + endcodes.unknown)

-- the reference number that the end of a GET COMMAND STATUS tells, and its figure
abbrev pub told_in : EndBody → Option (ℕ × ℕ)
told_in (bodies.Status other figure) = Some (other, figure)
told_in body = None

-- the endcode of a GET COMMAND STATUS (manual, "End Messages")
abbrev pub status_end : ℕ
status_end = endcodes.get_command_status

-- what an end tells of a command that was polled: where it is that of the poll in flight, and the poll was served
abbrev pub answered : Option Watch → End → Option (ℕ × ℕ)
answered None e = None
answered (Some w) e = if nat_eq w.reference e.reference && nat_eq e.code status_end then told_in e.body else None

-- the poll in flight is about the command of this number
abbrev pub is_about : Option Watch → ℕ → Bool
is_about None number = false
is_about (Some w) number = nat_eq w.polled number

-- an answer, if it is one, is about the command that was polled
abbrev pub is_about_polled : Option Watch → Option (ℕ × ℕ) → Bool
is_about_polled watch None = true
is_about_polled watch (Some told) = is_about watch told.0

-- the end may be that of this submission: by its endcode (manual), and where it answers a poll, by what it is about
-- (profile)
abbrev pub may_end : Account → End → Submission → Bool
may_end a e s = is_code_of e.code s.opcode && is_about_polled a.watch (answered a.watch e)

-- the polled submission is still outstanding
abbrev pub polled_is_outstanding : Option Watch → Bool
polled_is_outstanding None = false
polled_is_outstanding (Some w) = w.is_outstanding

-- what was told of a submission, if it is one
abbrev pub told_of : Option Submission → Option ℕ
told_of None = None
told_of (Some s) = s.told

-- what was last told of the command of this number
abbrev pub last_told : List Submission → ℕ → Option ℕ
last_told submissions number = told_of (find (has_reference number) submissions)

-- what a figure says of a command of which this was told before: that it doesn't fall, that the command is lost, or how
-- far it is. The first that holds (profile)
abbrev pub news_of_figure : Option ℕ → ℕ → News
news_of_figure (Some last) figure =
    if nat_lt figure last then (if nat_eq figure 0 then news.Lost else news.Progress figure) else news.Reset
news_of_figure None figure = if nat_eq figure 0 then news.Lost else news.First figure

-- what an end says (profile)
abbrev pub news_with : Account → End → Option (ℕ × ℕ) → News
news_with a e None = news.Ended e
news_with a e (Some told) =
    if polled_is_outstanding a.watch then news_of_figure (last_told a.outstanding told.0) told.1 else news.Late

-- the submissions, where of the one of this number this figure was told
abbrev pub with_told : ℕ → ℕ → List Submission → List Submission
with_told number figure [] = []
with_told number figure (s ∷ rest) =
    if has_reference number s then record s { told = Some figure } ∷ rest else s ∷ with_told number figure rest

-- the submissions without the one of this number
abbrev pub without : ℕ → List Submission → List Submission
without number [] = []
without number (s ∷ rest) = if has_reference number s then rest else s ∷ without number rest

-- the submissions, once that was told of the polled one, if that is still outstanding
abbrev pub outstanding_with : Account → Option (ℕ × ℕ) → List Submission
outstanding_with a None = a.outstanding
outstanding_with a (Some told) =
    if polled_is_outstanding a.watch then with_told told.0 told.1 a.outstanding else a.outstanding

-- the poll in flight, once the end of the command of this number was received
abbrev pub watch_after : Option Watch → ℕ → Option Watch
watch_after None number = None
watch_after (Some w) number =
    if nat_eq w.reference number then None else (
    if nat_eq w.polled number then Some (record w { is_outstanding = false }) else Some w)

-- what is kept once an end was received: its command is outstanding no more, so its credit is free again (manual, "Flow
-- Control")
abbrev pub received : Account → End → Account
received a e = record {
  credits = a.credits;
  outstanding = without e.reference (outstanding_with a (answered a.watch e));
  watch = watch_after a.watch e.reference;
}

-- what is said of an end, and what is kept then. A refusal changes nothing
abbrev pub heard_of : Account → End → Option Submission → Result News HostFault × Account
heard_of a e None = (Err faults.Unknown, a)
heard_of a e (Some s) =
    if may_end a e s then (Ok (news_with a e (answered a.watch e)), received a e) else (Err faults.Unknown, a)

-- what is refused as no end
abbrev pub or_unreadable : Result End EndFault → Result End HostFault
or_unreadable (Ok e) = Ok e
or_unreadable (Err fault) = Err faults.Unreadable

-- what is said of what bytes are read as, and what is kept then
abbrev pub heard_in : Account → Result End EndFault → Result News HostFault × Account
heard_in a (Err fault) = (Err faults.Unreadable, a)
heard_in a (Ok e) = heard_of a e (find (has_reference e.reference) a.outstanding)

-- what is said of bytes that are received, and what is kept then
abbrev pub heard : Account → List ℕ → Result News HostFault × Account
heard a b = heard_in a (end_in b)
