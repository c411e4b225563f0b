-- What the hosts of a log would have heard: they send what its lines send, and receive the ends that it tells.
use Rattle.std.specs.Prelude.{◌≡◌, ℕ, ◌+◌, nat_eq, nat_le, nat_lt, ◌&&◌, Bool, true, false, if◌then◌else◌, List, [], ◌∷◌, ◌++◌, length, codes, Option, Some, None, Result, Ok, Err}
use Rattle.std.specs.Fmt.{decimal}
use Rattle.std.specs.Str.{bytes_eq}
use Rattle.arrayvec.specs.ArrayVec.{ArrayVec}
use Rattle.mscp_packet.specs.Commands.{command_of}
use Rattle.mscp_packet.specs.declared.command.Command.{Command}
use Rattle.mscp_packet.specs.declared.command.Order.{Order}
use Rattle.mscp_packet.specs.declared.command.Order.TheVariants as orders
use Rattle.mscp_drive.specs.declared.connection.Connection.{Connection}
use Rattle.mscp_drive.specs.declared.connection.Connection.TheVariants.{First, Second}
use Rattle.mscp_drive.specs.Both.{Both, of, put}
use Rattle.mscp_drive.specs.Settings.{Settings}
use Rattle.mscp_drive.specs.declared.event.Event.{Event}
use Rattle.mscp_drive.specs.declared.event.Event.TheVariants as events
use Rattle.mscp_host.specs.Accounts.{Account, fresh, heard, oldest, polls_oldest, submits}
use Rattle.mscp_host.specs.declared.news.HostFault.{HostFault}
use Rattle.mscp_host.specs.declared.news.HostFault.TheVariants as faults
use Rattle.mscp_host.specs.declared.news.News.{News}
use Rattle.mscp_host.specs.declared.news.News.TheVariants as news
use Rattle.mscp_host.specs.declared.news.Poll.{Poll}
use Rattle.mscp_host.specs.declared.news.Poll.TheVariants as polls
use Rattle.mscp_host.specs.declared.submission.Submission.{Submission}
use Rattle.mscp_packet.specs.Steps.{◌>>=◌}
use Rattle.mscp_reader.specs.Lexical.{lines}
use Rattle.mscp_reader.specs.Requests.{bytes_in}
use Rattle.mscp_reader.specs.Grammar.{Begins, HasGone, Place, asked_after, said_at}
use Rattle.mscp_reader.specs.Outcome.{Fails, headed, in_line}
use Rattle.mscp_reader.specs.declared.fault.Cause.{Cause}
use Rattle.mscp_reader.specs.declared.fault.Cause.TheVariants as causes
use Rattle.mscp_reader.specs.declared.fault.ReadFault.{ReadFault}
use Rattle.mscp_reader.specs.declared.fault.ReadFault.TheVariants as reads
use Rattle.mscp_reader.specs.declared.fault.ScriptFault.{ScriptFault}
use Rattle.mscp_judge.specs.declared.hearing.Hearing.{Hearing}
use Rattle.mscp_judge.specs.Logs.{is_answer}

-- ---- a message

-- the host of a connection of so many credits, if that has one
abbrev pub host_of : ℕ → Option Account
host_of credits = if nat_le 2 credits && nat_le credits 64 then Some (fresh credits) else None

-- the command that a message is, if it is one
abbrev pub command_in : List ℕ → Option Command
command_in b = if nat_le 12 (length b) && nat_le (length b) 64 then Some (command_of b) else None

-- the submission has the number that this order asks about
abbrev pub is_about : Order → Option Submission → Bool
is_about (orders.Status other) (Some s) = nat_eq s.reference other
is_about order oldest = false

-- a poll of the oldest is an ordinary submission where one is in flight
abbrev pub unless_busy : Account → Command → Result Poll HostFault × Account → Account
unless_busy a command (Ok polls.Busy, next) = (submits a command).1
unless_busy a command (answer, next) = next

-- a command is sent: it is a poll if it asks about the host's oldest, and else an ordinary submission
abbrev pub sends : Account → Command → Account
sends a command =
    if is_about command.order (oldest a) then unless_busy a command (polls_oldest a command.reference)
    else (submits a command).1

-- a message is sent. Nothing comes of it where there is no host, or where it is no command
abbrev pub sends_message : Option Account → Option Command → Option Account
sends_message (Some a) (Some command) = Some (sends a command)
sends_message host command = host

-- ---- an end

-- what a host says of bytes that are received, and what it keeps. Where there is no host they are nobody's
abbrev pub hears : Option Account → List ℕ → Result News HostFault × Option Account
hears None b = (Err faults.Unknown, None)
hears (Some a) b = ((heard a b).0, Some (heard a b).1)

-- a host would have reset the controller
abbrev pub is_reset : Result News HostFault → Bool
is_reset (Ok news.Reset) = true
is_reset (Ok news.Lost) = true
is_reset said = false

-- the words of it
abbrev pub news_text : Result News HostFault → List ℕ
news_text (Ok (news.Ended e)) = codes "ended " ++ decimal e.reference
news_text (Ok (news.Progress figure)) = codes "progress " ++ decimal figure
news_text (Ok (news.First figure)) = codes "first " ++ decimal figure
news_text (Ok news.Late) = codes "late"
news_text (Ok news.Reset) = codes "reset"
news_text (Ok news.Lost) = codes "lost"
news_text (Err fault) = codes "nobody's"

-- the line of it
abbrev pub news_line : ℕ → Result News HostFault → List ℕ
news_line number said = (codes "line " ++ decimal number) ++ codes ": " ++ news_text said ++ codes "\n"

-- ---- words

-- the bytes of the message that stands first, or none
unfoldable pub first_bytes : List (List ℕ) → List ℕ
first_bytes [] = []
first_bytes (word ∷ rest) = bytes_in word

-- the bytes of the end that these words tell, if they tell one
unfoldable pub end_bytes : List (List ℕ) → Option (List ℕ)
end_bytes [] = None
end_bytes (word ∷ rest) = if bytes_eq word (codes "end") then Some (first_bytes rest) else None

-- the bytes of a list, if there is one
abbrev pub items_of : Option (ArrayVec ℕ) → Option (List ℕ)
items_of None = None
items_of (Some list) = Some list.items

-- ---- a log

-- what came of the lines so far: the events that were asked for, the host of each connection, how many ends were told,
-- for how many of them a host would have reset, and a line for each
pub record Heard : Type 0 where
  pub events : List Event
  pub hosts : Both (Option Account)
  pub ends : ℕ
  pub resets : ℕ
  pub text : List ℕ

-- nothing was heard
abbrev pub silence : Settings → Heard
silence c = record {
  events = [];
  hosts = record { first = host_of c.credits; second = host_of c.second };
  ends = 0;
  resets = 0;
  text = [];
}

-- the hosts, once that of a connection sent a message
abbrev pub sends_on : Both (Option Account) → Connection → List ℕ → Both (Option Account)
sends_on hosts via message = put via (sends_message (of via hosts) (command_in message)) hosts

-- the hosts, once this event came
abbrev pub hosts_after : Both (Option Account) → Event → Both (Option Account)
hosts_after hosts (events.Send via message) = sends_on hosts via message.items
hosts_after hosts event = hosts

-- the same of the events of a line
abbrev pub hosts_after_all : Both (Option Account) → List Event → Both (Option Account)
hosts_after_all hosts [] = hosts
hosts_after_all hosts (event ∷ rest) = hosts_after_all (hosts_after hosts event) rest

abbrev pub one_if : Bool → ℕ
one_if true = 1
one_if false = 0

-- a host said this of an end in the line of this number, and is this now
abbrev pub said : ℕ → Heard → Connection → Result News HostFault × Option Account → Heard
said number h via answer = record {
  events = h.events;
  hosts = put via answer.1 h.hosts;
  ends = h.ends + 1;
  resets = h.resets + one_if (is_reset answer.0);
  text = h.text ++ news_line number answer.0;
}

-- an end of a connection was told, if it is one
abbrev pub told : ℕ → Heard → Connection → Option (List ℕ) → Heard
told number h via None = h
told number h via (Some b) = said number h via (hears (of via h.hosts) b)

-- what comes of an answer of these words
unfoldable pub after_answer : ℕ → Heard → List (List ℕ) → Heard
after_answer number h [] = h
after_answer number h (word ∷ rest) =
    if bytes_eq word (codes "second") then told number h Second (end_bytes rest)
    else told number h First (end_bytes (word ∷ rest))

-- these events were asked for
abbrev pub asking : Heard → List Event → Heard
asking h new = record h { events = h.events ++ new; hosts = hosts_after_all h.hosts new }

-- what comes of a line of these words that asks for events
abbrev pub after_request : Heard → List (List ℕ) → Result Heard Cause
after_request h words = do
  new ← asked_after (length h.events) words
  Ok (asking h new)

-- what comes of a line of these words
abbrev pub after_words : ℕ → Heard → List (List ℕ) → Result Heard Cause
after_words number h [] = Ok h
after_words number h (word ∷ rest) =
    if is_answer (word ∷ rest) then Ok (after_answer number h (word ∷ rest)) else after_request h (word ∷ rest)

-- the same of a line of this number
unfoldable pub after_line : ℕ → Heard → List ℕ → Result Heard Cause
after_line number h bytes = said_at number bytes >>= after_words number h

-- what comes of lines that so many stand before, or the first fault
unfoldable pub after_lines : ℕ → Heard → List (List ℕ) → Result Heard ScriptFault
after_lines before h [] = Ok h
after_lines before h (bytes ∷ rest) =
    in_line (before + 1) (after_line (before + 1) h bytes) >>= λ next. after_lines (before + 1) next rest

-- what comes of the lines behind a header that leads there
abbrev pub heard_behind : Place × ℕ × List (List ℕ) → Result Heard ScriptFault
heard_behind (HasGone c events, before, behind) = after_lines before (silence c) behind
heard_behind (place, before, behind) = Err (record { line = before + 1; cause = causes.Header })

-- what comes of a whole log, or its first fault: its header is that of a script
abbrev pub heard_log : List ℕ → Result Heard ScriptFault
heard_log bytes =
    if nat_lt 16777216 (length bytes) then Err (record { line = 0; cause = causes.Size })
    else headed 0 Begins (lines bytes) >>= heard_behind

-- ---- what is kept

-- this came of the lines so far
pub record IsHeard {A : Type 0} (h : Heard) (hearing : Hearing A) : Type 0 where
  pub count : hearing.count ≡ length h.events
  pub first : hearing.first ≡ h.hosts.first
  pub second : hearing.second ≡ h.hosts.second
  pub ends : hearing.ends ≡ h.ends
  pub resets : hearing.resets ≡ h.resets
  pub text : hearing.text.items ≡ h.text

-- the host of a connection
abbrev pub host_at : {A : Type 0} → Connection → Hearing A → Option Account
host_at First hearing = hearing.first
host_at Second hearing = hearing.second

-- the same, where a connection has this host instead
abbrev pub with_host : {A : Type 0} → Connection → Option Account → Hearing A → Hearing A
with_host First host hearing = record hearing { first = host }
with_host Second host hearing = record hearing { second = host }

-- the fault of a line of this number is that of its definition, unless memory ran out
abbrev pub FailsLine : ℕ → ReadFault → Result Heard Cause → Type 0
FailsLine number (reads.Script fault) read = (fault.line ≡ number) × (read ≡ Err fault.cause)
FailsLine number reads.OutOfMemory read = Unit {0}

-- what was returned of a line of this number is what comes of it
abbrev pub Hears : {A : Type 0} → ℕ → Heard → List ℕ → Result Unit ReadFault → Hearing A → Type 0
Hears number h line (Ok done) hearing = (next : Heard) × (after_line number h line ≡ Ok next) × IsHeard next hearing
Hears number h line (Err fault) hearing = FailsLine number fault (after_line number h line)

-- what was returned is what came of the lines, or their first fault, unless memory ran out
abbrev pub Gives : {A : Type 0} → Result (Hearing A) ReadFault → Result Heard ScriptFault → Type 0
Gives (Ok hearing) read = (h : Heard) × (read ≡ Ok h) × IsHeard h hearing
Gives (Err fault) read = Fails fault read
