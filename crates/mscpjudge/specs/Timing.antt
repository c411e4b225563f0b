-- How long commands take in a log of the wire that is right, by the times that its lines tell.
use Rattle.std.specs.Prelude.{◌≡◌, ℕ, ◌+◌, ◌-◌, ◌==◌, ◌&&◌, nat_eq, nat_lt, Bool, true, false, if◌then◌else◌, List, [], ◌∷◌, ◌++◌, codes, length, Option, Some, None, Result, Ok}
use Rattle.std.specs.Ordering.{nat_cmp}
use Rattle.std.specs.BTreeMap as tree
use Rattle.std.specs.Fmt.{decimal}
use Rattle.std.specs.List.{list_any}
use Rattle.mscp_packet.specs.OpcodeBytes as opcodes
use Rattle.mscp_drive.specs.declared.connection.Connection.{Connection}
use Rattle.mscp_packet.specs.Number.{num}
use Rattle.mscp_reader.specs.Lexical.{lines}
use Rattle.mscp_reader.specs.declared.fault.Cause.{Cause}
use Rattle.mscp_wire.specs.Log.{line_says}
use Rattle.mscp_wire.specs.Wire.{is_hasty, is_message, key, later_of, same_connection, sent_by, timed, timeout_in}
use Rattle.mscp_wire.specs.declared.line.Said.{Said}
use Rattle.mscp_wire.specs.declared.line.Said.TheVariants as says
use Rattle.mscp_wire.specs.declared.moment.Moment.{Moment}
use Rattle.mscp_wire.specs.declared.moment.Moment.TheVariants as moments
use Rattle.mscp_wire.specs.declared.sent.Sent.{Sent}
use Rattle.mscpjudge.specs.Commands.{command_text}
use Rattle.mscpjudge.specs.Times.{line_time, seconds_text}
use Rattle.mscpjudge.specs.declared.timing.Span.{Span}
use Rattle.mscpjudge.specs.declared.timing.Timing.{Timing}
use Rattle.mscpjudge.specs.declared.timing.Waiting.{Waiting}

-- ---- what lines tell

-- the commands that have no end yet, by connection and reference number; the controller timeout, if it was told; the
-- longest time from a message to its end, and the longest of a poll; and how many polls were hasty
pub record Timed : Type 0 where
  pub waiting : Connection → ℕ → Option Waiting
  pub timeout : Option ℕ
  pub longest : Option Span
  pub poll : Option Span
  pub hasty : ℕ

abbrev pub nobody : Connection → ℕ → Option Waiting
nobody via reference = None

abbrev pub nothing_timed : Timed
nothing_timed = record { waiting = nobody; timeout = None; longest = None; poll = None; hasty = 0 }

-- the one of a name, where another has changed
abbrev pub with_waiting : (Connection → ℕ → Option Waiting) → Connection → ℕ → Option Waiting → Connection → ℕ
    → Option Waiting
with_waiting old via reference changed other number =
    if same_connection via other && nat_eq reference number then changed else old other number

-- ---- a message

-- the reference number that a poll names, if a command is one
abbrev pub polled_in : Sent → Option ℕ
polled_in y = if nat_eq y.opcode opcodes.get_command_status then y.parameter else None

-- the command of this number on a connection, if it waits
abbrev pub about : (Connection → ℕ → Option Waiting) → Connection → Option ℕ → Option Waiting
about waiting via None = None
about waiting via (Some reference) = waiting via reference

-- a poll of it comes sooner after the last one than the controller timeout
abbrev pub is_soon : Option ℕ → Option Waiting → Option ℕ → Bool
is_soon timeout None time = false
is_soon timeout (Some w) time = is_hasty timeout w.command.polled time

abbrev pub counted : Bool → ℕ → ℕ
counted true n = n + 1
counted false n = n

-- it was polled last at this time
abbrev pub polled_at : Option ℕ → Option Waiting → Option Waiting
polled_at time None = None
polled_at time (Some w) = Some (record w { command = record w.command { polled = time } })

-- the same among all, if it is a poll
abbrev pub after_poll : (Connection → ℕ → Option Waiting) → Sent → Option ℕ → Connection → ℕ → Option Waiting
after_poll old y None = old
after_poll old y (Some reference) =
    with_waiting old y.connection reference (polled_at y.time (old y.connection reference))

-- the line of this number sends a command
abbrev pub after_sent : ℕ → Timed → Sent → Timed
after_sent number t y = record t {
  waiting =
      with_waiting (after_poll t.waiting y (polled_in y)) y.connection y.reference
      (Some (record { line = number; command = y }));
  hasty = counted (is_soon t.timeout (about t.waiting y.connection (polled_in y)) y.time) t.hasty;
}

-- ---- an end

-- the time from when a command was sent to this, if both are told
abbrev pub span_by : ℕ → Waiting → Option ℕ → Option ℕ → Option Span
span_by number w (Some sent) (Some ended) =
    Some (record { time = ended - sent; first = w.line; last = number; command = w.command })
span_by number w sent ended = None

abbrev pub span_of : ℕ → Option Waiting → Option ℕ → Option Span
span_of number None time = None
span_of number (Some w) time = span_by number w w.command.time time

-- the longer of two: the first of those that are as long
abbrev pub longer : Option Span → Option Span → Option Span
longer None new = new
longer (Some old) None = Some old
longer (Some old) (Some new) = if nat_lt old.time new.time then Some new else Some old

-- if it is of a poll
abbrev pub of_poll : Option Span → Option Span
of_poll None = None
of_poll (Some span) = if nat_eq span.command.opcode opcodes.get_command_status then Some span else None

-- the line of this number and this time tells an end
abbrev pub after_ended : ℕ → Option ℕ → Timed → Connection → List ℕ → Timed
after_ended number time t via b = record t {
  waiting = with_waiting t.waiting via (num b 0 4) None;
  timeout = later_of (timeout_in b) t.timeout;
  longest = longer t.longest (span_of number (t.waiting via (num b 0 4)) time);
  poll = longer t.poll (of_poll (span_of number (t.waiting via (num b 0 4)) time));
}

-- ---- all lines

-- the line of this number and this time tells a moment. A packet that is too short names nobody
abbrev pub after_moment : ℕ → Option ℕ → Timed → Moment → Timed
after_moment number time t (moments.Message via b sent) =
    if is_message b.items then after_sent number t (timed sent (sent_by via b.items)) else t
after_moment number time t (moments.End via b) =
    if is_message b.items then after_ended number time t via b.items else t
after_moment number time t moments.Reset = record t { waiting = nobody; timeout = None }
after_moment number time t (moments.Closed via) = t

abbrev pub after_said : ℕ → Option ℕ → Timed → Result Said Cause → Timed
after_said number time t (Ok (says.Happens m)) = after_moment number time t m
after_said number time t said = t

unfoldable pub after_lines : ℕ → Timed → List (List ℕ) → Timed
after_lines before t [] = t
after_lines before t (line ∷ rest) =
    after_lines (before + 1)
    (after_said (before + 1) (line_time (before + 1) line) t (line_says (before + 1) line)) rest

-- ---- what is written

-- from which line to which
unfoldable pub lines_text : ℕ → ℕ → List ℕ
lines_text first last =
    (codes ", from line " ++ decimal first) ++ (codes " to line " ++ decimal last) ++ codes ": "

-- a time behind a word, from which line to which, and of which command, where lines have these numbers among all
abbrev pub told_text : (ℕ → ℕ) → List ℕ → Span → List ℕ
told_text number word span =
    word ++ seconds_text span.time ++ lines_text (number span.first) (number span.last) ++ command_text span.command

-- the same, if there is one
unfoldable pub span_text : (ℕ → ℕ) → List ℕ → Option Span → List ℕ
span_text number word None = []
span_text number word (Some span) = told_text number word span

-- how many polls were hasty, if some were
abbrev pub hasty_text : ℕ → List ℕ
hasty_text count = if nat_eq count 0 then [] else codes "hasty polls: " ++ decimal count ++ codes "\n"

unfoldable pub spans_text : (ℕ → ℕ) → Option Span → Option Span → ℕ → List ℕ
spans_text number longest poll hasty =
    span_text number (codes "longest: ") longest ++ span_text number (codes "longest poll: ") poll ++ hasty_text hasty

abbrev pub timed_text : (ℕ → ℕ) → Timed → List ℕ
timed_text number t = spans_text number t.longest t.poll t.hasty

-- a byte is '@', with which each time begins
abbrev pub is_at : ℕ → Bool
is_at b = b == 64

-- the lines of the times of a log, if it tells some and isn't too large
abbrev pub lines_timed : (ℕ → ℕ) → List ℕ → List ℕ
lines_timed number bytes =
    if nat_lt 16777216 (length bytes) then [] else timed_text number (after_lines 0 nothing_timed (lines bytes))

unfoldable pub timing_text : (ℕ → ℕ) → List ℕ → List ℕ
timing_text number bytes = if list_any is_at bytes then lines_timed number bytes else []

-- ---- what is kept

abbrev pub waiting_by : tree.BTreeMap ℕ Waiting → Connection → ℕ → Option Waiting
waiting_by map via reference = tree.get nat_cmp map (key via reference)

-- this is what lines told
pub record IsTimed (t : Timed) (timing : Timing) : Type 0 where
  pub waiting : waiting_by timing.waiting ≡ t.waiting
  pub timeout : timing.timeout ≡ t.timeout
  pub longest : timing.longest ≡ t.longest
  pub poll : timing.poll ≡ t.poll
  pub hasty : timing.hasty ≡ t.hasty
