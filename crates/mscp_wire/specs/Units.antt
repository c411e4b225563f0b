-- What a host was told of units: by its own ends, and of whether they are online by the other host's, too.
use Rattle.std.specs.Prelude.{◌≡◌, ℕ, ◌+◌, ◌*◌, ◌/◌, ◌%◌, Bool, true, false, not, ◌&&◌, ◌||◌, nat_eq, if◌then◌else◌, fold, Option, Some, None}
use Rattle.std.specs.HashMap as hashed
use Rattle.mscp_packet.specs.OpcodeBytes as opcodes
use Rattle.mscp_packet.specs.EndcodeBytes as endcodes
use Rattle.mscp_packet.specs.StatusCodes as statuses
use Rattle.mscp_drive.specs.declared.connection.Connection.{Connection}
use Rattle.mscp_drive.specs.declared.connection.Connection.TheVariants.{First, Second}
use Rattle.mscp_wire.specs.Messages.{History, answer_by, controller_in, same_connection, timeout_in, status_code}
use Rattle.mscp_wire.specs.Polls.{is_it}
use Rattle.mscp_wire.specs.Rows.{found}
use Rattle.mscp_wire.specs.declared.answer.Answer.{Answer}
use Rattle.mscp_wire.specs.declared.identity.Identity.{Identity}
use Rattle.mscp_wire.specs.declared.moment.Moment.{Moment}
use Rattle.mscp_wire.specs.declared.moment.Moment.TheVariants as moments
use Rattle.mscp_wire.specs.declared.row.Entry.{Entry}
use Rattle.mscp_wire.specs.declared.sent.Sent.{Sent}
use Rattle.mscp_wire.specs.declared.noted.Noted.{Noted}
use Rattle.mscp_wire.specs.declared.told.State.{State}
use Rattle.mscp_wire.specs.declared.told.State.TheVariants.{Away, Open, Shared}
use Rattle.mscp_wire.specs.declared.told.Told.{Told}
use Rattle.mscp_wire.specs.declared.units.Units.{Units}

-- ---- what an end says of its unit

-- the sub-code of an ONLINE's Success says that the unit was online already: its bit 0x0100 is set (manual, "Status and
-- Event Codes")
abbrev pub was_online : Answer → Bool
was_online e = nat_eq (e.status / 256 % 2) 1

-- an end tells what a unit is that was online before: one of GET UNIT STATUS or SET UNIT CHARACTERISTICS that
-- succeeded, or one of ONLINE that says so. Any other Success of an ONLINE brought the unit online (manual, "ONLINE
-- Command")
abbrev pub tells_unit : Answer → Bool
tells_unit e =
    nat_eq (status_code e) statuses.success
    && (nat_eq e.code endcodes.get_unit_status || (nat_eq e.code endcodes.online && was_online e)
    || nat_eq e.code endcodes.set_unit_characteristics)

-- two numbers are the same, if both are there
abbrev pub fits : Option ℕ → Option ℕ → Bool
fits (Some one) (Some other) = nat_eq one other
fits one other = true

-- an end tells of a unit what is known of it
abbrev pub agrees : Option Identity → Identity → Bool
agrees None known = false
agrees (Some told) known =
    nat_eq told.identifier known.identifier && nat_eq told.media known.media && fits told.size known.size

-- an end is one of SET UNIT CHARACTERISTICS, which succeeds of a unit that isn't online, too: it may have become
-- available by itself, which no end says, and then be another one each time
abbrev pub is_unsure : Answer → Bool
is_unsure e = nat_eq e.code endcodes.set_unit_characteristics

-- its unit is what is known of it, if anything is (manual, "ONLINE Command")
abbrev pub is_known_unit : Option Identity → Answer → Bool
is_known_unit None e = true
is_known_unit (Some known) e = not (tells_unit e) || is_unsure e || agrees e.identity known

abbrev pub is_same_unit : Told → Answer → Bool
is_same_unit told e = is_known_unit told.identity e

-- an end brings its unit online: one of ONLINE that succeeded
abbrev pub brings : Answer → Bool
brings e = nat_eq e.code endcodes.online && nat_eq (status_code e) statuses.success

-- an end with this endcode is one of a transfer
abbrev pub is_moved : ℕ → Bool
is_moved code =
    nat_eq code endcodes.access || nat_eq code endcodes.erase || nat_eq code endcodes.compare_host_data
    || nat_eq code endcodes.read || nat_eq code endcodes.write

-- or of another command that waits for its unit: AVAILABLE, ONLINE or SET UNIT CHARACTERISTICS
abbrev pub is_of_unit : ℕ → Bool
is_of_unit code =
    is_moved code || nat_eq code endcodes.available || nat_eq code endcodes.online
    || nat_eq code endcodes.set_unit_characteristics

-- an end of such a command, or of a GET UNIT STATUS, says that its unit isn't online: one of AVAILABLE that succeeded,
-- without the sub-code that says that the unit is still online (0x0200), or a status Unit-Available or Unit-Offline.
-- That of a GET UNIT STATUS may name unit 0, as there is no unit
abbrev pub says_away : Answer → Bool
says_away e =
    (nat_eq (status_code e) statuses.success && (nat_eq e.code endcodes.available && nat_eq (e.status / 512 % 2) 0))
    || (nat_eq (status_code e) statuses.unit_available && (is_of_unit e.code || nat_eq e.code endcodes.get_unit_status))
    || (nat_eq (status_code e) statuses.unit_offline && is_of_unit e.code)

-- after an end nothing is known of what its unit is
abbrev pub leaves : Answer → Bool
leaves e =
    says_away e || nat_eq (status_code e) statuses.unit_available || nat_eq (status_code e) statuses.unit_offline
    || (nat_eq (status_code e) statuses.success && nat_eq e.code endcodes.available)

-- an end says that its unit is online: one of a transfer or a GET UNIT STATUS that succeeded, or one of ONLINE that
-- says that it was (manual, "Unit States")
abbrev pub says_online : Answer → Bool
says_online e =
    nat_eq (status_code e) statuses.success
    && (is_moved e.code || nat_eq e.code endcodes.get_unit_status || (nat_eq e.code endcodes.online && was_online e))

-- ---- whether it is online

-- an end suits the state of its unit: of one that isn't online it doesn't say that it is
abbrev pub suits_state : State → Answer → Bool
suits_state Away e = not (says_online e)
suits_state state e = true

-- the state once an end told another. If the other host brings the unit online, too, nothing is known: its end may be
-- told late
abbrev pub turned : State → State → State
turned Shared new = Shared
turned old new = new

-- ---- what is noted of a unit, of which no rule asks

-- an end tells what its unit is and how it is set: one of ONLINE, SET UNIT CHARACTERISTICS or GET UNIT STATUS that
-- succeeded
abbrev pub describes : Answer → Bool
describes e = brings e || tells_unit e

-- the later of two numbers, if it is there
abbrev pub later_of : Option ℕ → Option ℕ → Option ℕ
later_of None known = known
later_of (Some number) known = Some number

-- the size that an end tells
abbrev pub size_of : Option Identity → Option ℕ
size_of None = None
size_of (Some i) = i.size

-- nothing
abbrev pub noted_nothing : Noted
noted_nothing = record { size = None; table = None; protected = false; present = false }

-- its size in blocks, that of its replacement and caching table, whether it is protected from writing and whether it is
-- there, once an end of its own host came that names it. If it isn't online any more its size is another's
abbrev pub noted_own : Noted → Answer → Noted
noted_own noted e = record {
  size = if leaves e then None else (if describes e then later_of (size_of e.identity) noted.size else noted.size);
  table =
      if leaves e || brings e then None else (if describes e then later_of e.table noted.table else noted.table);
  protected = not (leaves e) && (if describes e then e.protected else noted.protected);
  present = not (nat_eq (status_code e) statuses.unit_offline) && (leaves e || describes e || noted.present);
}

-- and once one of the other host did: what that changed isn't told
abbrev pub noted_other : Noted → Answer → Noted
noted_other noted e = if leaves e || describes e then noted_nothing else noted

-- ---- what a host was told of a unit

-- nothing yet
abbrev pub told_nothing : Told
told_nothing = record { identity = None; sure = false; state = Open; noted = noted_nothing }

-- that it isn't online, as the controller was initialised
abbrev pub told_reset : Told
told_reset = record { identity = None; sure = false; state = Away; noted = noted_nothing }

-- it isn't known to be shared to the other host
abbrev pub is_single : State → Bool
is_single Shared = false
is_single state = true

-- an end tells something of a unit of which nothing was known for sure
abbrev pub learns : Told → Answer → Bool
learns told e = tells_unit e && not told.sure && is_single told.state

-- once an end of its own came, which names the unit
abbrev pub after_own : Told → Answer → Told
after_own told e = record {
  identity = if leaves e then None else (if brings e || learns told e then e.identity else told.identity);
  sure = not (leaves e) && (brings e || told.sure || (learns told e && nat_eq e.code endcodes.get_unit_status));
  state =
      if says_away e then turned told.state Away else (
      if brings e then turned told.state Open else told.state);
  noted = noted_own told.noted e;
}

-- and once one of the other host did. If that brought the unit online, it may be another one
abbrev pub after_other : Told → Answer → Told
after_other told e = record told {
  identity = if leaves e || (brings e && not (was_online e)) then None else told.identity;
  sure = not (leaves e || (brings e && not (was_online e))) && told.sure;
  noted = noted_other told.noted e;
}

-- what the host of a connection was told of a unit once an end came. One that isn't settled tells its own host no more
-- than it does the other one
abbrev pub told_after_end : Connection → ℕ → Bool → Told → Answer → Told
told_after_end via unit settled told e =
    if not (nat_eq e.unit unit) then told else (
    if same_connection e.connection via && settled then after_own told e else after_other told e)

-- the other host's command is an ONLINE of the unit
abbrev pub shares : Connection → ℕ → Sent → Bool
shares via unit s = nat_eq s.opcode opcodes.online && nat_eq s.unit unit && not (same_connection s.connection via)

-- the same once a command came
abbrev pub told_after_message : Connection → ℕ → Told → Sent → Told
told_after_message via unit told s = if shares via unit s then record told { state = Shared } else told

-- ---- what was told of the controller

-- its identifier, once a moment more came
abbrev pub controller_after : Option ℕ → Moment → Option ℕ
controller_after known (moments.End via b) = later_of (controller_in b.items) known
controller_after known moments.Reset = None
controller_after known m = known

-- its timeout in seconds, once a moment more came. Before that is told it is the host's own
abbrev pub timeout_after : Option ℕ → Moment → Option ℕ
timeout_after known (moments.End via b) = later_of (timeout_in b.items) known
timeout_after known moments.Reset = None
timeout_after known m = known

-- what either host was told of its identifier after a history
abbrev pub controller : History → Option ℕ
controller h = fold controller_after None h

-- the identifier of a unit, if it is told
abbrev pub identifier_of : Option Identity → Option ℕ
identifier_of None = None
identifier_of (Some i) = Some i.identifier

-- the identifier of a unit of which an end says that it is online: one of ONLINE or GET UNIT STATUS that succeeded
abbrev pub called_in : Answer → Option ℕ
called_in e =
    if describes e && not (nat_eq e.code endcodes.set_unit_characteristics) then identifier_of e.identity else None

-- which unit was last said to be online and to have an identifier, once a moment more came
abbrev pub called_after_end : ℕ → Option ℕ → Answer → Option ℕ
called_after_end identifier known e = if is_it (called_in e) identifier then Some e.unit else known

abbrev pub called_after : ℕ → Option ℕ → Moment → Option ℕ
called_after identifier known (moments.Message via b time) = known
called_after identifier known (moments.End via b) = called_after_end identifier known (answer_by via b.items)
called_after identifier known m = None

-- the same after a history
abbrev pub called : History → ℕ → Option ℕ
called h identifier = fold (called_after identifier) None h

-- ---- the units that are kept

-- the other connection
abbrev pub other_side : Connection → Connection
other_side First = Second
other_side Second = First

-- the number of a unit of a connection
abbrev pub key : Connection → ℕ → ℕ
key First unit = 2 * unit
key Second unit = 2 * unit + 1

-- what an entry tells a connection, if there is one
abbrev pub told_to : Told → Connection → Option Entry → Told
told_to others via None = others
told_to others First (Some entry) = entry.first
told_to others Second (Some entry) = entry.second

-- what is kept of a unit of a connection
abbrev pub kept : {A : Type 0} → Units A → Connection → ℕ → Told
kept units via unit = told_to units.others via (found units.kept unit)

-- which unit is kept of an identifier
abbrev pub kept_called : {A : Type 0} → Units A → ℕ → Option ℕ
kept_called units identifier = hashed.get nat_eq units.called identifier

-- this is kept of a unit: of it on a connection, and on the other one. Of each other unit the same as before is
abbrev pub Puts : {A : Type 0} → Units A → Units A → Connection → ℕ → Told → Told → Type 0
Puts old new via unit own others =
    (side : Connection) (number : ℕ) → kept new side number
    ≡ (if nat_eq unit number then (if same_connection via side then own else others) else kept old side number)
