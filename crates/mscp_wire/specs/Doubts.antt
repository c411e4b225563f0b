-- What no rule forbids, and hardly any controller does: the doubts of a log that is right. A legal trace may do each of
-- them, so none is a rule. They are, and beside each the definition that decides it:
--
--     Identity    two identities are told of a unit, and nothing between may have changed it        is_another
--     Size        a transfer succeeds past the size of its unit and its replacement and caching
--                 table                                                                            is_past
--     Status      a status has a code that such a command has no use for                            is_odd
--     Protection  a WRITE or an ERASE succeeds of a unit that is protected from writing             writes_protected
--     Identifier  two units that are online have one identifier                                     is_called_twice
--     Next        a GET UNIT STATUS that asks for the next unit passes one that is there            skips
--     Figure      in a log that begins in the middle a figure doesn't fall                          is_slow
use Rattle.std.specs.Prelude.{ℕ, zero, suc, ◌+◌, ◌/◌, ◌<◌, Bool, true, false, not, cond, ◌&&◌, ◌||◌, nat_eq, nat_le, nat_lt, if◌then◌else◌, List, length, take, slice_index, Option, Some, None}
use Rattle.mscp_packet.specs.OpcodeBytes as opcodes
use Rattle.mscp_packet.specs.EndcodeBytes as endcodes
use Rattle.mscp_packet.specs.StatusCodes as statuses
use Rattle.mscp_drive.specs.declared.connection.Connection.{Connection}
use Rattle.mscp_drive.specs.declared.connection.Connection.TheVariants.{First, Second}
use Rattle.mscp_wire.specs.Begun.{is_slow}
use Rattle.mscp_wire.specs.Log.{Log}
use Rattle.mscp_wire.specs.Wire.{agrees, answer_by, answered_by, called, called_in, command_of, History, identifier_of, is_it, is_known, is_long, is_moved, is_single, is_transfer, is_unknown, moment_at, outstanding, status_code, tells_unit, told}
use Rattle.mscp_wire.specs.declared.answer.Answer.{Answer}
use Rattle.mscp_wire.specs.declared.doubts.Doubt.{Doubt}
use Rattle.mscp_wire.specs.declared.doubts.Doubtful.{Doubtful}
use Rattle.mscp_wire.specs.declared.doubts.Doubts.{Doubts}
use Rattle.mscp_wire.specs.declared.doubts.Found.{Found}
use Rattle.mscp_wire.specs.declared.identity.Identity.{Identity}
use Rattle.mscp_wire.specs.declared.moment.Moment.{Moment}
use Rattle.mscp_wire.specs.declared.moment.Moment.TheVariants as moments
use Rattle.mscp_wire.specs.declared.sent.Sent.{Sent}
use Rattle.mscp_wire.specs.declared.told.Told.{Told}

-- ---- of an end

-- an end of SET UNIT CHARACTERISTICS tells of a unit another identity than this, if that is there. The rule of
-- identities lets it pass if both are told so alone: then the unit may be available, so its volume may have changed
abbrev pub is_another : Option Identity → Answer → Bool
is_another None e = false
is_another (Some known) e =
    nat_eq e.code endcodes.set_unit_characteristics && tells_unit e && not (agrees e.identity known)

-- how many blocks stand behind a unit's size: those of its replacement and caching table, which GET UNIT STATUS tells.
-- Without it these are the most that it can tell, 65,535 blocks in each of 255 copies
abbrev pub blocks_behind : Option ℕ → ℕ
blocks_behind None = 16711425
blocks_behind (Some blocks) = blocks

-- so many bytes from a block on end behind them, in blocks of 512 bytes
abbrev pub ends_past : Option ℕ → Option ℕ → Option ℕ → Option ℕ → Bool
ends_past (Some size) table (Some block) (Some bytes) =
    nat_lt (size + blocks_behind table) (block + (bytes + 511) / 512)
ends_past size table block bytes = false

-- a transfer succeeded that ends there
abbrev pub is_past : Told → Sent → Answer → Bool
is_past unit y e =
    is_moved e.code && nat_eq (status_code e) statuses.success && is_single unit.state
    && ends_past unit.noted.size unit.noted.table y.block y.parameter

-- a command has no use for a status of this code (manual, "Status and Event Codes"): an ACCESS, a COMPARE HOST DATA
-- or a READ that is Write Protected, a Compare Error of anything but a COMPARE HOST DATA or a transfer with the
-- modifier Compare, a Host Buffer Access Error without a buffer, which a COMPARE HOST DATA, a READ and a WRITE
-- have, and of an AVAILABLE all codes of a medium, of data or of a buffer
abbrev pub has_no_use : Sent → ℕ → Bool
has_no_use y code =
    (nat_eq code statuses.write_protected
    && (nat_eq y.opcode opcodes.access || nat_eq y.opcode opcodes.compare_host_data || nat_eq y.opcode opcodes.read))
    || (nat_eq code statuses.compare_error
    && not (nat_eq y.opcode opcodes.compare_host_data || (is_transfer y.opcode && y.compares)))
    || (nat_eq code statuses.host_buffer_access_error
    && not (nat_eq y.opcode opcodes.compare_host_data || nat_eq y.opcode opcodes.read || nat_eq y.opcode opcodes.write))
    || (nat_eq y.opcode opcodes.available
    && nat_le statuses.media_format_error code && nat_le code statuses.host_buffer_access_error)

-- its status has such a code, and a row of the table of opcodes has its command
abbrev pub is_odd : Sent → Answer → Bool
is_odd y e = is_known e && not (is_unknown y.opcode) && has_no_use y (status_code e)

-- a WRITE or an ERASE succeeded, and the unit was told to be protected from writing
abbrev pub writes_protected : Told → Answer → Bool
writes_protected unit e =
    (nat_eq e.code endcodes.write || nat_eq e.code endcodes.erase)
    && nat_eq (status_code e) statuses.success && is_single unit.state
    && unit.noted.protected

-- a unit was told to be online, and to have this identifier
abbrev pub holds : ℕ → Told → Bool
holds identifier unit = unit.sure && is_it (identifier_of unit.identity) identifier

-- it was so by either host
abbrev pub is_held : (Connection → ℕ → Told) → ℕ → ℕ → Bool
is_held units identifier unit = holds identifier (units First unit) || holds identifier (units Second unit)

-- another unit was the last one that was said to be online and to have an identifier, and still is
abbrev pub is_held_by_another : (Connection → ℕ → Told) → ℕ → Answer → Option ℕ → Bool
is_held_by_another units identifier e None = false
is_held_by_another units identifier e (Some unit) = not (nat_eq unit e.unit) && is_held units identifier unit

-- an end says that its unit is online and has an identifier that another one has
abbrev pub is_called_twice : (Connection → ℕ → Told) → (ℕ → Option ℕ) → Option ℕ → Answer → Bool
is_called_twice units callers None e = false
is_called_twice units callers (Some identifier) e = is_held_by_another units identifier e (callers identifier)

-- a GET UNIT STATUS that asks for the next unit tells of one above that which it names, and that was told to be there:
-- the next unit is the first one from it on (manual, "GET UNIT STATUS Command")
abbrev pub skips : Told → Sent → Answer → Bool
skips named y e =
    y.next && nat_eq e.code endcodes.get_unit_status
    && (nat_eq (status_code e) statuses.success || nat_eq (status_code e) statuses.unit_available)
    && nat_lt y.unit e.unit
    && named.noted.present

-- ---- of a moment

-- nothing is doubtful
abbrev pub no_doubt : Doubtful
no_doubt = record {
  identity = false;
  size = false;
  status = false;
  protection = false;
  identifier = false;
  next = false;
  figure = false;
}

-- what is doubtful of the end of a command, by what was told before of units
abbrev pub doubtful_end : (Connection → ℕ → Told) → (ℕ → Option ℕ) → Answer → Sent → Doubtful
doubtful_end units callers e y = record {
  identity = is_another (units e.connection e.unit).identity e;
  size = is_past (units e.connection e.unit) y e;
  status = is_odd y e;
  protection = writes_protected (units e.connection e.unit) e;
  identifier = is_called_twice units callers (called_in e) e;
  next = skips (units e.connection y.unit) y e;
  figure = false;
}

-- if it answers one
abbrev pub doubtful_found : (Connection → ℕ → Told) → (ℕ → Option ℕ) → Answer → Option Sent → Doubtful
doubtful_found units callers e None = no_doubt
doubtful_found units callers e (Some y) = doubtful_end units callers e y

-- of a moment, before which these are outstanding and this was told
abbrev pub doubtful : List Sent → (Connection → ℕ → Told) → (ℕ → Option ℕ) → Moment → Doubtful
doubtful xs units callers (moments.End via b) =
    if is_long b.items
    then doubtful_found units callers (answer_by via b.items) (answered_by xs (answer_by via b.items))
    else no_doubt
doubtful xs units callers m = no_doubt

-- of the moment at a place of a history
abbrev pub doubtful_at : History → ℕ → Doubtful
doubtful_at h i = doubtful (outstanding (take i h)) (told (take i h)) (called (take i h)) (moment_at h i)

-- ---- of a log

-- how many of p 0, p 1 .. before p n are true
unfoldable pub many : (ℕ → Bool) → ℕ → ℕ
many p zero = 0
many p (suc n) = many p n + cond (p n) 1 0

-- the first of them, if there is one
abbrev pub or_last : Option ℕ → Bool → ℕ → Option ℕ
or_last None true n = Some n
or_last place last n = place

unfoldable pub first_of : (ℕ → Bool) → ℕ → Option ℕ
first_of p zero = None
first_of p (suc n) = or_last (first_of p n) (p n) n

-- the line that tells the moment at a place of a log, and the command that it answers
abbrev pub found_at : Log → Option ℕ → Option Found
found_at log None = None
found_at log (Some i) = Some (record {
  line = slice_index log.lines i;
  command = command_of (outstanding (take i log.moments)) (moment_at log.moments i);
})

-- the doubts of one kind, of which these places are
abbrev pub doubts_at : (ℕ → Bool) → Log → Doubt
doubts_at kind log = record {
  first = found_at log (first_of kind (length log.moments));
  count = many kind (length log.moments);
}

abbrev pub doubt_of : (Doubtful → Bool) → Log → Doubt
doubt_of kind log = doubts_at (λ i. kind (doubtful_at log.moments i)) log

-- and those of figures
abbrev pub slow_at : Bool → Option ℕ → History → ℕ → Bool
slow_at begun credits h i = is_slow begun credits (take i h) (moment_at h i)

-- all of them
abbrev pub doubts_of : Log → Doubts
doubts_of log = record {
  identity = doubt_of (λ d. d.identity) log;
  size = doubt_of (λ d. d.size) log;
  status = doubt_of (λ d. d.status) log;
  protection = doubt_of (λ d. d.protection) log;
  identifier = doubt_of (λ d. d.identifier) log;
  next = doubt_of (λ d. d.next) log;
  figure = doubts_at (slow_at log.begun log.credits log.moments) log;
}

-- none of the counts is so large
pub record AreFewDoubts (doubts : Doubts) (n : ℕ) : Type 0 where
  pub identity : doubts.identity.count < n
  pub size : doubts.size.count < n
  pub status : doubts.status.count < n
  pub protection : doubts.protection.count < n
  pub identifier : doubts.identifier.count < n
  pub next : doubts.next.count < n
  pub figure : doubts.figure.count < n

-- the first one is kept
abbrev pub found_or : Option Found → Found → Option Found
found_or None new = Some new
found_or (Some first) new = Some first

-- doubts of one kind, once one more came or not
abbrev pub doubt_with : Doubt → Bool → Found → Doubt
doubt_with d false new = d
doubt_with d true new = record { first = found_or d.first new; count = d.count + 1 }

abbrev pub doubts_with : Doubts → Doubtful → Found → Doubts
doubts_with d more new = record {
  identity = doubt_with d.identity more.identity new;
  size = doubt_with d.size more.size new;
  status = doubt_with d.status more.status new;
  protection = doubt_with d.protection more.protection new;
  identifier = doubt_with d.identifier more.identifier new;
  next = doubt_with d.next more.next new;
  figure = doubt_with d.figure more.figure new;
}
