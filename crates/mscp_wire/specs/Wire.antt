-- What goes over the wire between hosts and a controller, and the manual's rules for it, as far as the wire shows
-- whether they are kept. No controller is in these definitions: they judge any.
--
-- A rule speaks of a moment and of what is outstanding after the moments before it. The rules, in the order in which
-- they are asked, and beside each the definition that decides it:
--
--     the host's     Message      a message has 12 bytes at least                             is_message
--                    Number       no command that is outstanding has its reference number     is_new
--                    Credits      its host has a credit for it                                has_credit
--     the            Length       an end is as long as its endcode asks                       is_long
--     controller's   Outstanding  it answers a command that is outstanding                    place_of
--                    Unit         it names the unit of that command, unless that asks for
--                                 the next unit                                               names_unit
--                    Endcode      it has the endcode of that command                          has_endcode
--                    Status       its status is one that such a command may have              has_status
--                    Aborted      a command is aborted only while a later ABORT of it is
--                                 outstanding                                                 has_abort
--                    Order        of a unit no command passes a sequential one, and that
--                                 passes none                                                 passes_none
--                    Success      an ABORT and a GET COMMAND STATUS succeed, unless they are
--                                 refused for a modifier                                      succeeds
--                    About        their ends name the command that they are about             is_about
--                    Figure       the figure of the oldest command falls from poll to poll,
--                                 unless that comes sooner than the controller timeout;
--                                 it is 0 if no such command is outstanding, and may be 0
--                                 if its end is on the way                                    has_figure
--                    Count        no more bytes are moved than were asked for, and all of
--                                 them if the status is Success                               has_count
--                    Identity     while a unit is online its identifier, media type and size
--                                 stay as they are                                            is_same_unit
--                    State        a transfer and a GET UNIT STATUS succeed, and an ONLINE
--                                 says that its unit was online, only if the unit is online   suits_state
--                    Controller   the identifier of the controller stays as it is             fits
--
-- An end is asked for Identity and State, and proves how its unit is, only if it is settled (is_settled).
use Rattle.std.specs.Prelude.{◌≡◌, ℕ, ◌+◌, ◌/◌, ◌<◌, Bool, true, false, not, ◌&&◌, ◌||◌, nat_eq, nat_le, nat_lt, if◌then◌else◌, List, [], ◌∷◌, ◌++◌, length, map, take, drop, find, position, count_by, fold, min, slice_index, slice_index_or, Option, Some, None, is_some}
use Rattle.std.specs.List.{filter, list_any}
use Rattle.mscp_packet.specs.OpcodeBytes as opcodes
use Rattle.mscp_packet.specs.EndcodeBytes as endcodes
use Rattle.mscp_packet.specs.StatusCodes as statuses
use Rattle.mscp_packet.specs.Ends.{least_end}
use Rattle.mscp_packet.specs.Opcodes.{may_have_status}
use Rattle.mscp_drive.specs.declared.connection.Connection.{Connection}
use Rattle.mscp_drive.specs.declared.connection.Connection.TheVariants.{First}
pub use Rattle.mscp_wire.specs.Messages.{History, answer_by, asks_for_next, controller_in, is_compared, protected_in, table_in, four_in, identity_in, is_about_another, is_immediate, is_known, is_named, is_ordered, is_required, is_sequential, is_short, is_modified, is_sequential_class, is_transfer, is_transfer_class, is_unknown, is_unknown_class, same_connection, sent_by, status_code, timeout_in}
pub use Rattle.mscp_wire.specs.Polls.{asked_about, asked_by, asking, asks_oldest, has_figure, has_number, hears, is_below, is_hasty, is_it, is_oldest, is_polled, is_refused, left, may_ask, may_be, may_tell, polled_by, polls, tells, turns, turns_beside, waits_on}
pub use Rattle.mscp_wire.specs.Units.{Puts, after_other, after_own, agrees, brings, called, called_after, called_after_end, called_in, controller, controller_after, describes, fits, identifier_of, kept_called, noted_nothing, noted_other, noted_own, size_of, is_known_unit, is_moved, is_of_unit, is_same_unit, is_single, is_unsure, learns, kept, key, later_of, leaves, other_side, says_away, says_online, shares, suits_state, tells_unit, timeout_after, told_after_end, told_after_message, told_nothing, told_reset, told_to, turned, was_online}
use Rattle.mscp_wire.specs.declared.answer.Answer.{Answer}
use Rattle.mscp_wire.specs.declared.moment.Moment.{Moment}
use Rattle.mscp_wire.specs.declared.moment.Moment.TheVariants as moments
use Rattle.mscp_wire.specs.declared.rule.Rule.{Rule}
use Rattle.mscp_wire.specs.declared.rule.Rule.TheVariants as rules
use Rattle.mscp_wire.specs.declared.sent.Sent.{Sent}
use Rattle.mscp_wire.specs.declared.told.Seen.{Seen}
use Rattle.mscp_wire.specs.declared.told.Told.{Told}

-- ---- the rules of a host

-- a message has as many bytes as each has (manual, "Command Messages")
abbrev pub is_message : List ℕ → Bool
is_message b = nat_le 12 (length b)

-- no command of its connection that is outstanding has its reference number (manual, "Command Messages")
abbrev pub is_new : List Sent → Sent → Bool
is_new xs s = not (list_any (is_named s.connection s.reference) xs)

-- how many commands of a connection are outstanding
abbrev pub count_on : Connection → List Sent → ℕ
count_on via xs = count_by (λ s. same_connection s.connection via) xs

-- of so many credits its host has one for it: the last one is for a command that is answered when it arrives (manual,
-- "Flow Control")
abbrev pub has_one_of : ℕ → List Sent → Sent → Bool
has_one_of credits xs s =
    nat_lt (count_on s.connection xs + 1) credits
    || (nat_eq (count_on s.connection xs + 1) credits && is_immediate s.opcode)

-- how many credits each host has at most: 1024, which is more than any controller gives, unless the log tells fewer
abbrev pub limit_of : Option ℕ → ℕ
limit_of None = 1024
limit_of (Some credits) = min credits 1024

-- its host has a credit for it
abbrev pub has_credit : Option ℕ → List Sent → Sent → Bool
has_credit credits xs s = has_one_of (limit_of credits) xs s

-- ---- the rules of an end

-- an end is as long as its endcode asks (manual, "End Messages")
abbrev pub is_long : List ℕ → Bool
is_long b = nat_le 12 (length b) && nat_le (least_end (slice_index b 8)) (length b)

-- where the command that it answers stands among those that are outstanding, if it does (manual, "End Messages")
abbrev pub place_of : List Sent → Answer → Option ℕ
place_of xs e = position (is_named e.connection e.reference) xs

-- it names the unit of its command (manual, "End Messages"), or any if that asks for the next unit
abbrev pub names_unit : Sent → Answer → Bool
names_unit y e = y.next || nat_eq e.unit y.unit

-- its endcode is the opcode of its command with the top bit set (manual, "End Messages"), or that bit alone if a
-- controller may leave that opcode out
abbrev pub has_endcode : Sent → Answer → Bool
has_endcode y e = if is_known e then nat_eq e.code (y.opcode + endcodes.unknown) else not (is_required y.opcode)

-- its status has a code that its command may have: any if no row of the table of opcodes has that, and Invalid Command
-- where the controller doesn't know it
abbrev pub has_code : Sent → Answer → Bool
has_code y e =
    if is_known e then is_unknown y.opcode || may_have_status y.opcode (status_code e)
    else nat_eq (status_code e) statuses.invalid_command

-- a command whose message is too short for its opcode doesn't succeed
abbrev pub is_whole : Sent → Answer → Bool
is_whole y e = not (is_short y) || not (nat_eq (status_code e) statuses.success)

-- of those that have a row only an ONLINE succeeds with the sub-code that says that its unit was online already
abbrev pub is_plain : Sent → Answer → Bool
is_plain y e =
    not (nat_eq (status_code e) statuses.success) || not (was_online e) || nat_eq y.opcode opcodes.online
    || is_unknown y.opcode

-- the sub-code of Invalid Command is the offset of a byte that the message has (manual, "Status and Event Codes"),
-- unless that is too short
abbrev pub points_into : Sent → Answer → Bool
points_into y e = not (nat_eq (status_code e) statuses.invalid_command) || is_short y || nat_lt (e.status / 256) y.bytes

-- its status is one that its command may have
abbrev pub has_status : Sent → Answer → Bool
has_status y e = has_code y e && is_whole y e && is_plain y e && points_into y e

-- s is an ABORT of the command y
abbrev pub aborts : Sent → Sent → Bool
aborts y s =
    same_connection s.connection y.connection && nat_eq s.opcode opcodes.abort && is_it s.parameter y.reference

-- a command is aborted only while an ABORT of it is outstanding that came after it, so its end stands before that
-- of its ABORT (manual, "Command Messages")
abbrev pub has_abort : List Sent → Sent → Answer → Bool
has_abort later y e = not (nat_eq (status_code e) statuses.aborted) || list_any (aborts y) later

-- the earlier command s keeps y back: both are of one unit, and one of them is sequential while the other has its place
-- in a queue (manual, "Command Categories and Execution Order"). Of two connections nothing is said: each takes its own
-- ends
abbrev pub keeps_back : Sent → Sent → Bool
keeps_back y s =
    same_connection s.connection y.connection
    && nat_eq s.unit y.unit
    && ((is_sequential s.opcode && (is_sequential y.opcode || is_ordered y.opcode))
    || (is_ordered s.opcode && is_sequential y.opcode))

-- a status of this code may come at once, before earlier commands of the unit end
abbrev pub is_apart : ℕ → Bool
is_apart code =
    nat_eq code statuses.invalid_command || nat_eq code statuses.aborted || nat_eq code statuses.unit_offline

-- it passes no command that it has to wait for (manual, "Command Categories and Execution Order")
abbrev pub passes_none : List Sent → Sent → Answer → Bool
passes_none earlier y e = is_apart (status_code e) || not (list_any (keeps_back y) earlier)

-- ---- the rules of its body

-- the command that its command is about, if it is an ABORT or a GET COMMAND STATUS that names one. Neither has a
-- modifier, so with one it may be refused
abbrev pub other_of : Sent → Answer → Option ℕ
other_of y e = if is_known e && is_about_another y.opcode && not (is_refused y e) then y.parameter else None

-- the bytes of a command are counted: of a transfer, or of a COMPARE CONTROLLER DATA whose end tells a number
abbrev pub is_counted : ℕ → Option ℕ → Bool
is_counted opcode parameter = is_transfer opcode || (nat_eq opcode opcodes.compare_controller_data && is_some parameter)

-- how many bytes were to be moved, if that is counted
abbrev pub count_of : Sent → Answer → Option ℕ
count_of y e = if is_known e && is_counted y.opcode e.parameter then y.parameter else None

-- an ABORT and a GET COMMAND STATUS succeed, also of a command that isn't outstanding, unless they are refused for a
-- modifier
abbrev pub succeeds : Answer → Option ℕ → Bool
succeeds e None = true
succeeds e (Some other) = nat_eq (status_code e) statuses.success

-- their ends name the command that they are about (manual, "End Messages")
abbrev pub is_about : Answer → Option ℕ → Bool
is_about e None = true
is_about e (Some other) = is_it e.parameter other

-- no more bytes were moved than were asked for, and all of them if the status is Success (manual, "End Messages")
abbrev pub moves : Answer → Option ℕ → ℕ → Bool
moves e None count = false
moves e (Some moved) count = nat_le moved count && (nat_eq moved count || not (nat_eq (status_code e) statuses.success))

abbrev pub has_count : Answer → Option ℕ → Bool
has_count e None = true
has_count e (Some count) = moves e e.parameter count

-- ---- what is outstanding

-- the command at a place
abbrev pub command_at : List Sent → ℕ → Sent
command_at xs i = slice_index_or xs i (sent_by First [])

-- the same, if there is one
abbrev pub command_at_place : List Sent → Option ℕ → Option Sent
command_at_place xs None = None
command_at_place xs (Some i) = Some (command_at xs i)

-- the outstanding command that an end answers, if there is one
abbrev pub answered_by : List Sent → Answer → Option Sent
answered_by xs e = command_at_place xs (place_of xs e)

-- the command that a moment is about: that which it sends, or which it answers, if it is outstanding
abbrev pub command_of : List Sent → Moment → Option Sent
command_of xs (moments.Message via b time) = if is_message b.items then Some (sent_by via b.items) else None
command_of xs (moments.End via b) =
    if is_long b.items then answered_by xs (answer_by via b.items) else None
command_of xs m = None

-- the first command that keeps back the one at a place, if there is one: of those that its end passes the oldest
abbrev pub passed_at : List Sent → Option ℕ → Option Sent
passed_at xs None = None
passed_at xs (Some i) = find (keeps_back (command_at xs i)) (take i xs)

-- the same of the command that a moment's end answers
abbrev pub passed_of : List Sent → Moment → Option Sent
passed_of xs (moments.Message via b time) = None
passed_of xs (moments.End via b) =
    if is_long b.items then passed_at xs (place_of xs (answer_by via b.items)) else None
passed_of xs m = None

-- ---- which ends are settled

-- a command that changes the state of a connection's unit
abbrev pub is_turning : Connection → ℕ → Sent → Bool
is_turning via unit s = turns s.opcode && same_connection s.connection via && nat_eq s.unit unit

-- the end of a GET UNIT STATUS may tell what was at any moment between its message and itself. So it is late if
-- an AVAILABLE or an ONLINE of its unit was outstanding between: one ended beside y, or one still is
abbrev pub is_late : List Sent → Sent → Answer → Bool
is_late xs y e = nat_eq e.code endcodes.get_unit_status && (y.beside || list_any (is_turning e.connection e.unit) xs)

-- an end says that its unit went away by itself: with Unit-Available or Unit-Offline. It may have passed ends of before
abbrev pub went : Answer → Bool
went e = says_away e && not (nat_eq (status_code e) statuses.success)

-- an end of y is settled: it isn't late, and if it says that the unit went away nothing else of its host is outstanding
abbrev pub is_settled : List Sent → Sent → Answer → Bool
is_settled xs y e = not (is_late xs y e) && (not (went e) || nat_le (count_on e.connection xs) 1)

abbrev pub is_settled_at : List Sent → Answer → Option ℕ → Bool
is_settled_at xs e None = true
is_settled_at xs e (Some i) = is_settled xs (command_at xs i) e

-- the same of any end
abbrev pub settles : List Sent → Answer → Bool
settles xs e = is_settled_at xs e (place_of xs e)

-- ---- what was told before

-- what an end is compared with of its unit: nothing, if it isn't settled
abbrev pub unit_before : List Sent → (Connection → ℕ → Told) → Answer → Told
unit_before xs units e = if settles xs e then units e.connection e.unit else told_nothing

abbrev pub seen_nothing : Seen
seen_nothing = record { unit = told_nothing; controller = None }

-- what was told of the unit that a moment's end names, and of the controller
abbrev pub seen_of : List Sent → (Connection → ℕ → Told) → Option ℕ → Moment → Seen
seen_of xs units known (moments.Message via b time) = seen_nothing
seen_of xs units known (moments.End via b) =
    record { unit = unit_before xs units (answer_by via b.items); controller = known }
seen_of xs units known m = seen_nothing

-- the same, if it is as long as its endcode asks
abbrev pub seen_before : List Sent → (Connection → ℕ → Told) → Option ℕ → Moment → Seen
seen_before xs units known (moments.Message via b time) = seen_nothing
seen_before xs units known (moments.End via b) =
    if is_long b.items then seen_of xs units known (moments.End via b) else seen_nothing
seen_before xs units known m = seen_nothing

-- what is outstanding once the end of the command at a place came: the others hear it
abbrev pub after_end : List Sent → Answer → Option ℕ → List Sent
after_end xs e None = xs
after_end xs e (Some i) = map (hears (command_at xs i) e) (take i xs ++ drop (i + 1) xs)

-- a command that was sent at this time
abbrev pub timed : Option ℕ → Sent → Sent
timed time s = record s { time = time }

-- the commands that aren't of a connection
abbrev pub others_of : Connection → List Sent → List Sent
others_of via xs = filter (λ s. not (same_connection s.connection via)) xs

-- what is outstanding once a moment more came, where this is the controller timeout: a message adds its command, an end
-- takes its own away, a reset all, and a connection that closes its own
abbrev pub after : Option ℕ → List Sent → Moment → List Sent
after timeout xs (moments.Message via b time) = xs ++ asking timeout xs (timed time (sent_by via b.items)) ∷ []
after timeout xs (moments.End via b) = after_end xs (answer_by via b.items) (place_of xs (answer_by via b.items))
after timeout xs moments.Reset = []
after timeout xs (moments.Closed via) = others_of via xs

-- what the host of a connection was told of a unit once a moment more came, before which these were outstanding. As a
-- connection closes units may change their state, of which no end tells
abbrev pub told_after : List Sent → Connection → ℕ → Told → Moment → Told
told_after xs via unit told (moments.Message other b time) = told_after_message via unit told (sent_by other b.items)
told_after xs via unit told (moments.End other b) =
    told_after_end via unit (settles xs (answer_by other b.items)) told (answer_by other b.items)
told_after xs via unit told moments.Reset = told_reset
told_after xs via unit told (moments.Closed other) = told_nothing

-- what stands after a history: the controller timeout, if it was told, the commands that are outstanding, oldest first
-- (manual, "Flow Control"), and what the host of a connection was told of a unit
pub record Standing : Type 0 where
  pub timeout : Option ℕ
  pub commands : List Sent
  pub units : Connection → ℕ → Told

abbrev pub standing_after : Standing → Moment → Standing
standing_after s m = record {
  timeout = timeout_after s.timeout m;
  commands = after s.timeout s.commands m;
  units = λ via unit. told_after s.commands via unit (s.units via unit) m;
}

abbrev pub standing_first : Standing
standing_first = record { timeout = None; commands = []; units = λ via unit. told_nothing }

abbrev pub standing : History → Standing
standing h = fold standing_after standing_first h

abbrev pub timeout : History → Option ℕ
timeout h = (standing h).timeout

abbrev pub outstanding : History → List Sent
outstanding h = (standing h).commands

abbrev pub told : History → Connection → ℕ → Told
told h = (standing h).units

-- ---- the first rule that is broken

abbrev pub unless : Bool → Rule → Option Rule → Option Rule
unless true rule rest = rest
unless false rule rest = Some rule

-- by a message
abbrev pub broken_message : Option ℕ → List Sent → Sent → Option Rule
broken_message credits xs s = unless (is_new xs s) rules.Number (unless (has_credit credits xs s) rules.Credits None)

-- by the body of an end of this command, after which these came
abbrev pub broken_body : List Sent → Sent → Seen → Answer → Option Rule
broken_body later y unit e =
    unless (succeeds e (other_of y e)) rules.Success
    (unless (is_about e (other_of y e)) rules.About
    (unless (has_figure later y e (polled_by y e)) rules.Figure
    (unless (has_count e (count_of y e)) rules.Count
    (unless (is_same_unit unit.unit e) rules.Identity
    (unless (suits_state unit.unit.state e) rules.State
    (unless (fits unit.controller e.controller) rules.Controller None))))))

-- by an end of this command, before and after which these came
abbrev pub broken_end : List Sent → List Sent → Sent → Seen → Answer → Option Rule
broken_end earlier later y unit e =
    unless (names_unit y e) rules.Unit
    (unless (has_endcode y e) rules.Endcode
    (unless (has_status y e) rules.Status
    (unless (has_abort later y e) rules.Aborted
    (unless (passes_none earlier y e) rules.Order (broken_body later y unit e)))))

-- by an end of the command at a place, if it is there
abbrev pub broken_at : List Sent → Seen → Answer → Option ℕ → Option Rule
broken_at xs unit e None = Some rules.Outstanding
broken_at xs unit e (Some i) = broken_end (take i xs) (drop (i + 1) xs) (command_at xs i) unit e

-- by a moment, before which these are outstanding and this was told of its unit and the controller, where each host has
-- so many credits
abbrev pub broken : Option ℕ → List Sent → Seen → Moment → Option Rule
broken credits xs unit (moments.Message via b time) =
    unless (is_message b.items) rules.Message (broken_message credits xs (sent_by via b.items))
broken credits xs unit (moments.End via b) =
    unless (is_long b.items) rules.Length
    (broken_at xs unit (answer_by via b.items) (place_of xs (answer_by via b.items)))
broken credits xs unit m = None

-- by a moment after a history
abbrev pub broken_by : Option ℕ → History → Moment → Option Rule
broken_by credits h m = broken credits (outstanding h) (seen_of (outstanding h) (told h) (controller h) m) m

-- ---- a moment that is right

-- a moment is right after a history: it breaks no rule
abbrev pub IsRight : Option ℕ → History → Moment → Type 0
IsRight credits h m = broken_by credits h m ≡ None

-- the moment at a position. Past the end there is none that asks for anything
abbrev pub moment_at : History → ℕ → Moment
moment_at h i = slice_index_or h i moments.Reset

-- each moment of a history is right after those before it
abbrev pub AreRight : Option ℕ → History → Type 0
AreRight credits h = (i : ℕ) → i < length h → IsRight credits (take i h) (moment_at h i)
