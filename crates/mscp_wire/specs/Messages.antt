-- What messages and ends say, as far as the rules of the wire ask for it.
use Rattle.std.specs.Prelude.{ℕ, ◌+◌, ◌*◌, ◌/◌, ◌%◌, Bool, true, false, not, ◌&&◌, ◌||◌, nat_eq, nat_le, nat_lt, if◌then◌else◌, List, length, slice_index, Option, Some, None}
use Rattle.mscp_packet.specs.OpcodeBytes as opcodes
use Rattle.mscp_packet.specs.EndcodeBytes as endcodes
use Rattle.mscp_packet.specs.StatusCodes as statuses
use Rattle.mscp_packet.specs.Number.{num}
pub use Rattle.mscp_packet.specs.Opcodes.{is_immediate}
use Rattle.mscp_packet.specs.Opcodes.{class, least_of, scheduled_as}
use Rattle.mscp_packet.specs.Statuses.{code_of}
use Rattle.mscp_packet.specs.declared.class.Class.{Class}
use Rattle.mscp_packet.specs.declared.class.Class.TheVariants as classes
use Rattle.mscp_drive.specs.declared.connection.Connection.{Connection}
use Rattle.mscp_drive.specs.declared.connection.Connection.TheVariants.{First, Second}
use Rattle.mscp_wire.specs.declared.answer.Answer.{Answer}
use Rattle.mscp_wire.specs.declared.identity.Identity.{Identity}
use Rattle.mscp_wire.specs.declared.moment.Moment.{Moment}
use Rattle.mscp_wire.specs.declared.sent.Asked.TheVariants.{Nothing}
use Rattle.mscp_wire.specs.declared.sent.Sent.{Sent}

-- what went over the wire, the first moment first
abbrev pub History : Type 0
History = List Moment

-- ---- what a message and an end say

-- the number in the four bytes from a place on, if the message has them
abbrev pub four_in : List ℕ → ℕ → Option ℕ
four_in b at = if nat_le (at + 4) (length b) then Some (num b at 4) else None

-- a message is a GET UNIT STATUS that asks for the next unit, by its modifiers (manual, "GET UNIT STATUS Command")
abbrev pub asks_for_next : List ℕ → Bool
asks_for_next b = nat_eq (slice_index b 8) opcodes.get_unit_status && nat_eq (num b 10 2 % 2) 1

-- a message sets a modifier
abbrev pub is_modified : List ℕ → Bool
is_modified b = not (nat_eq (num b 10 2) 0)

-- its modifier Compare (0x4000) is set: what is moved is compared, too (manual, "Command Modifiers")
abbrev pub is_compared : List ℕ → Bool
is_compared b = nat_eq (num b 10 2 / 16384 % 2) 1

-- the command of a message, of which nothing was told yet (manual, "Command Messages"). Its parameter is the number in
-- bytes 12 to 15: of an ABORT and a GET COMMAND STATUS the reference number of the command that they are about, of a
-- transfer how many bytes are to be moved. That in bytes 28 to 31 is the first block of a transfer
abbrev pub sent_by : Connection → List ℕ → Sent
sent_by via b = record {
  connection = via;
  reference = num b 0 4;
  unit = num b 4 2;
  opcode = slice_index b 8;
  bytes = length b;
  next = asks_for_next b;
  modified = is_modified b;
  compares = is_compared b;
  parameter = four_in b 12;
  block = four_in b 28;
  time = None;
  told = None;
  polled = None;
  asked = Nothing;
  beside = false;
}

-- what an end of 44 bytes at least says of its unit, if it is one of ONLINE, SET UNIT CHARACTERISTICS or GET UNIT
-- STATUS, which says no size (manual, "End Messages")
abbrev pub identity_in : List ℕ → Option Identity
identity_in b =
    if nat_le 44 (length b)
    then Some (record {
      identifier = num b 20 8;
      media = num b 28 4;
      size = if nat_eq (slice_index b 8) endcodes.get_unit_status then None else Some (num b 36 4);
    })
    else None

-- the flags of a unit in an end say that it is protected from writing: by software (0x1000) or by a switch (0x2000)
-- (manual, "Unit Flags")
abbrev pub protected_in : List ℕ → Bool
protected_in b = nat_le 16 (length b) && not (nat_eq (num b 14 2 / 4096 % 4) 0)

-- how many blocks all copies of a unit's replacement and caching table have, if an end is long enough to tell it: only
-- one of GET UNIT STATUS does (manual, "GET UNIT STATUS Command")
abbrev pub table_in : List ℕ → Option ℕ
table_in b =
    if nat_eq (slice_index b 8) endcodes.get_unit_status && nat_le 48 (length b)
    then Some (num b 44 2 * slice_index b 47)
    else None

-- an end tells of the controller: one of SET CONTROLLER CHARACTERISTICS that succeeded (manual, "SET CONTROLLER
-- CHARACTERISTICS Command")
abbrev pub tells_controller : List ℕ → Bool
tells_controller b =
    nat_eq (slice_index b 8) endcodes.set_controller_characteristics
    && nat_eq (code_of (num b 10 2)) statuses.success && nat_le 28 (length b)

-- the identifier of the controller, if an end tells it
abbrev pub controller_in : List ℕ → Option ℕ
controller_in b = if tells_controller b then Some (num b 20 8) else None

-- and the controller timeout in seconds
abbrev pub timeout_in : List ℕ → Option ℕ
timeout_in b = if tells_controller b then Some (num b 16 2) else None

-- the end in a message (manual, "End Messages"). Its parameter is that number of its command's, or how many bytes were
-- moved; the figure is that of a GET COMMAND STATUS
abbrev pub answer_by : Connection → List ℕ → Answer
answer_by via b = record {
  connection = via;
  reference = num b 0 4;
  unit = num b 4 2;
  code = slice_index b 8;
  status = num b 10 2;
  parameter = four_in b 12;
  figure = four_in b 16;
  identity = identity_in b;
  protected = protected_in b;
  table = table_in b;
  controller = controller_in b;
  timeout = timeout_in b;
}

-- both are the same connection
abbrev pub same_connection : Connection → Connection → Bool
same_connection First First = true
same_connection Second Second = true
same_connection one other = false

-- the command has this reference number on this connection
abbrev pub is_named : Connection → ℕ → Sent → Bool
is_named via reference s = same_connection s.connection via && nat_eq s.reference reference

-- ---- opcodes, endcodes and statuses

-- it keeps its place among the commands of its unit
abbrev pub is_sequential_class : Class → Bool
is_sequential_class classes.Sequential = true
is_sequential_class other = false

abbrev pub is_sequential : ℕ → Bool
is_sequential opcode = is_sequential_class (class opcode)

-- it is a transfer
abbrev pub is_transfer_class : Class → Bool
is_transfer_class classes.Free = true
is_transfer_class other = false

abbrev pub is_transfer : ℕ → Bool
is_transfer opcode = is_transfer_class (class opcode)

-- no row of the table of opcodes has it
abbrev pub is_unknown_class : Class → Bool
is_unknown_class classes.Unknown = true
is_unknown_class other = false

abbrev pub is_unknown : ℕ → Bool
is_unknown opcode = is_unknown_class (class opcode)

-- it has its place among the commands of its unit, too: a transfer, or one of DETERMINE ACCESS PATHS, COMPARE
-- CONTROLLER DATA, FLUSH and REPLACE, which no row of the controller's has (manual, "Command Categories and Execution
-- Order")
abbrev pub is_ordered : ℕ → Bool
is_ordered opcode = is_transfer_class (scheduled_as opcode)

-- no controller may leave it out (manual, "Minimal Disk Subset")
abbrev pub is_required : ℕ → Bool
is_required opcode =
    nat_eq opcode opcodes.abort
    || nat_eq opcode opcodes.get_command_status
    || nat_eq opcode opcodes.get_unit_status
    || nat_eq opcode opcodes.set_controller_characteristics
    || nat_eq opcode opcodes.available
    || nat_eq opcode opcodes.online
    || nat_eq opcode opcodes.set_unit_characteristics
    || nat_eq opcode opcodes.read
    || nat_eq opcode opcodes.write

-- it is an ABORT or a GET COMMAND STATUS, which are about another command
abbrev pub is_about_another : ℕ → Bool
is_about_another opcode = nat_eq opcode opcodes.abort || nat_eq opcode opcodes.get_command_status

-- its message is shorter than a command of its opcode may be, so that what it asks for is there
abbrev pub is_short : Sent → Bool
is_short s = nat_lt s.bytes (least_of s.opcode)

-- the code of its status (manual, "Status and Event Codes")
abbrev pub status_code : Answer → ℕ
status_code e = code_of e.status

-- the endcode is that of an opcode which the controller knows (profile)
abbrev pub is_known : Answer → Bool
is_known e = not (nat_eq e.code endcodes.unknown)
