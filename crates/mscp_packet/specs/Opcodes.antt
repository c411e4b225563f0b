-- The table of the opcodes.
use Rattle.std.specs.Prelude.{ℕ, Bool, true, false, not, nat_eq, nat_le, ◌&&◌, ◌||◌, codes, List, [], ◌∷◌, find, is_some, Option, Some, None}
use Rattle.mscp_packet.specs.OpcodeBytes as bytes
use Rattle.mscp_packet.specs.declared.class.Answerer.{Answerer}
use Rattle.mscp_packet.specs.declared.class.Answerer.TheVariants.{Controller, Port, Nobody}
use Rattle.mscp_packet.specs.declared.class.Class.{Class}
use Rattle.mscp_packet.specs.declared.class.Class.TheVariants.{Immediate, Sequential, Free, Unknown}
use Rattle.mscp_packet.specs.declared.class.Opcode.{Opcode}
use Rattle.mscp_packet.specs.declared.class.Opcode.TheVariants as known
use Rattle.mscp_packet.specs.declared.class.Foreign.{Foreign}
use Rattle.mscp_packet.specs.declared.class.Foreign.TheVariants as foreign
use Rattle.mscp_packet.specs.declared.class.StatusSet.{StatusSet}
use Rattle.mscp_packet.specs.declared.class.StatusSet.TheVariants.{Answered, State, Bringing, Any}
use Rattle.mscp_packet.specs.declared.command.MoveKind.{MoveKind}
use Rattle.mscp_packet.specs.declared.command.MoveKind.TheVariants as moves
use Rattle.mscp_packet.specs.declared.end.BodyKind.{BodyKind}
use Rattle.mscp_packet.specs.declared.end.BodyKind.TheVariants as kinds

-- a status of this code, its low five bits, may come (manual, "Status and Event Codes"). There are codes up to 11.
-- What looks at no unit has Success (0) or Invalid Command (1). What looks at a unit alone isn't aborted (2), and has
-- no code of a medium, of data or of a buffer (5 to 9). What wants no unit that is online isn't told that it is
-- available (4)
abbrev pub has_status : StatusSet → ℕ → Bool
has_status Answered code = nat_le code 1
has_status State code = nat_le code 11 && not (nat_eq code 2) && not (nat_le 5 code && nat_le code 9)
has_status Bringing code = nat_le code 11 && not (nat_eq code 4)
has_status Any code = nat_le code 11

-- what is told of an opcode: its byte, what the manual calls it, how its commands are scheduled, the fewest bytes that
-- a command of it has, how many bytes are written of one, the shape of its end's body, which codes the status of that
-- may have, which modifiers a command may carry, and who answers it here
pub record OpcodeRow : Type 0 where
  pub byte : ℕ
  pub name : List ℕ
  pub scheduled : Class
  pub least_length : ℕ
  pub written_length : ℕ
  pub body : BodyKind
  pub statuses : StatusSet
  pub modifiers : ℕ
  pub answerer : Answerer

abbrev pub row : ℕ → List ℕ → Class → ℕ → ℕ → BodyKind → StatusSet → ℕ → Answerer → OpcodeRow
row byte name scheduled least written body statuses modifiers answerer = record {
  byte = byte;
  name = name;
  scheduled = scheduled;
  least_length = least;
  written_length = written;
  body = body;
  statuses = statuses;
  modifiers = modifiers;
  answerer = answerer;
}

-- the five transfers (manual): their bytes, their names, and the modifiers of their commands
abbrev pub move_byte : MoveKind → ℕ
move_byte moves.Access = bytes.access
move_byte moves.Erase = bytes.erase
move_byte moves.Compare = bytes.compare_host_data
move_byte moves.Read = bytes.read
move_byte moves.Write = bytes.write

abbrev pub move_name : MoveKind → List ℕ
move_name moves.Access = codes "ACCESS"
move_name moves.Erase = codes "ERASE"
move_name moves.Compare = codes "COMPARE HOST DATA"
move_name moves.Read = codes "READ"
move_name moves.Write = codes "WRITE"

abbrev pub move_modifiers : MoveKind → ℕ
move_modifiers moves.Access = 0xA300
move_modifiers moves.Erase = 0xB100
move_modifiers moves.Compare = 0xA300
move_modifiers moves.Read = 0xE300
move_modifiers moves.Write = 0xF300

-- the table (manual, "Command Categories and Execution Order", "End Messages", "Status and Event Codes", "Command
-- Modifiers"; the lengths are the profile's): first the opcodes that the controller answers
abbrev pub row_of : Opcode → OpcodeRow
row_of known.Abort = row bytes.abort (codes "ABORT") Immediate 16 16 kinds.Abort Answered 0 Controller
row_of known.Status =
    row bytes.get_command_status (codes "GET COMMAND STATUS") Immediate 16 16 kinds.Status Answered 0 Controller
row_of known.UnitStatus =
    row bytes.get_unit_status (codes "GET UNIT STATUS") Immediate 12 12 kinds.UnitStatus State 0x0001 Controller
row_of known.SetController =
    row bytes.set_controller_characteristics (codes "SET CONTROLLER CHARACTERISTICS") Immediate 14 18 kinds.Controller
    Answered 0 Controller
row_of known.Available =
    row bytes.available (codes "AVAILABLE") Sequential 12 12 kinds.Bare Bringing 0xA003 Controller
row_of known.Online = row bytes.online (codes "ONLINE") Sequential 12 12 kinds.Online Bringing 0xA007 Controller
row_of known.SetUnit =
    row bytes.set_unit_characteristics (codes "SET UNIT CHARACTERISTICS") Sequential 12 12 kinds.Online Any 0xA004
    Controller
row_of (known.Move kind) =
    row (move_byte kind) (move_name kind) Free 32 32 kinds.Moved Any (move_modifiers kind) Controller

-- and then the manual's other opcodes of disks, of which a port answers some. None of their commands is written
abbrev pub foreign_row : Foreign → OpcodeRow
foreign_row foreign.AccessPaths =
    row bytes.determine_access_paths (codes "DETERMINE ACCESS PATHS") Free 12 12 kinds.Bare Any 0 Port
foreign_row foreign.CompareController =
    row bytes.compare_controller_data (codes "COMPARE CONTROLLER DATA") Free 12 12 kinds.Bare Any 0xA000 Port
foreign_row foreign.Flush = row bytes.flush (codes "FLUSH") Free 12 12 kinds.Bare Any 0xA001 Port
foreign_row foreign.Replace = row bytes.replace (codes "REPLACE") Free 32 32 kinds.Bare Any 0xA001 Nobody
foreign_row foreign.Format = row bytes.format (codes "FORMAT") Sequential 12 12 kinds.Bare Any 0xA000 Nobody
foreign_row foreign.FormatOfSimh =
    row bytes.format_of_simh (codes "FORMAT") Sequential 12 12 kinds.Bare Any 0xA000 Nobody

-- ---- read off the table

-- all that the controller answers
abbrev pub opcodes : List Opcode
opcodes =
    known.Abort
    ∷ known.Status
    ∷ known.UnitStatus
    ∷ known.SetController
    ∷ known.Available
    ∷ known.Online
    ∷ known.SetUnit
    ∷ known.Move moves.Access
    ∷ known.Move moves.Erase
    ∷ known.Move moves.Compare
    ∷ known.Move moves.Read
    ∷ known.Move moves.Write
    ∷ []

-- the opcode of a byte. No other byte is one
abbrev pub opcode_of : ℕ → Option Opcode
opcode_of byte = find (λ o. nat_eq (row_of o).byte byte) opcodes

-- all others
abbrev pub foreigners : List Foreign
foreigners =
    foreign.AccessPaths
    ∷ foreign.CompareController
    ∷ foreign.Flush
    ∷ foreign.Replace
    ∷ foreign.Format
    ∷ foreign.FormatOfSimh
    ∷ []

abbrev pub foreign_of : ℕ → Option Foreign
foreign_of byte = find (λ o. nat_eq (foreign_row o).byte byte) foreigners

-- what is told of a byte that is no opcode
abbrev pub unknown_name : List ℕ
unknown_name = codes "command of an unknown opcode"

abbrev pub unknown_row : ℕ → OpcodeRow
unknown_row byte = row byte unknown_name Unknown 12 12 kinds.Bare Any 0 Nobody

-- the row of a byte
abbrev pub row_with : ℕ → Option Opcode → Option Foreign → OpcodeRow
row_with byte (Some o) other = row_of o
row_with byte None (Some o) = foreign_row o
row_with byte None None = unknown_row byte

abbrev pub row_at : ℕ → OpcodeRow
row_at byte = row_with byte (opcode_of byte) (foreign_of byte)

-- what a command with this opcode byte is called
abbrev pub opcode_name : ℕ → List ℕ
opcode_name byte = (row_at byte).name

-- whether it is an opcode of the table
abbrev pub has_row : ℕ → Bool
has_row byte = is_some (opcode_of byte) || is_some (foreign_of byte)

-- how it is scheduled, whoever answers it: `class` is that of the controller's own
abbrev pub scheduled_as : ℕ → Class
scheduled_as byte = (row_at byte).scheduled

-- the fewest bytes of its message
abbrev pub least_of : ℕ → ℕ
least_of byte = (row_at byte).least_length

-- its end may have a status of this code
abbrev pub may_have_status : ℕ → ℕ → Bool
may_have_status byte code = has_status (row_at byte).statuses code

-- the modifiers that it may carry
abbrev pub modifiers_of : ℕ → ℕ
modifiers_of byte = (row_at byte).modifiers

-- it is the port that answers it
abbrev pub is_port : Answerer → Bool
is_port Port = true
is_port answerer = false

unfoldable pub port_answers : ℕ → Bool
port_answers byte = is_port (row_at byte).answerer

-- the fewest bytes that a command of an opcode has, at least 12 (profile)
abbrev pub least : Opcode → ℕ
least o = (row_of o).least_length

-- how the commands of an opcode are scheduled (manual, "Command Categories and Execution Order")
abbrev pub class_of_opcode : Option Opcode → Class
class_of_opcode None = Unknown
class_of_opcode (Some o) = (row_of o).scheduled

-- the class of an opcode byte
abbrev pub class : ℕ → Class
class byte = class_of_opcode (opcode_of byte)

-- a command of this class is answered when it arrives (manual, "Command Categories and Execution Order")
abbrev pub is_immediate_class : Class → Bool
is_immediate_class Immediate = true
is_immediate_class other = false

-- one of this class is a transfer, and so is one with this opcode byte (manual, the same)
abbrev pub is_free_class : Class → Bool
is_free_class Free = true
is_free_class other = false

unfoldable pub is_transfer_opcode : ℕ → Bool
is_transfer_opcode byte = is_free_class (class byte)

-- one with this opcode byte is answered when it arrives
abbrev pub is_immediate : ℕ → Bool
is_immediate byte = is_immediate_class (class byte)

-- one of this class is kept in its place among the commands of its unit (manual, the same)
abbrev pub is_sequential_class : Class → Bool
is_sequential_class Sequential = true
is_sequential_class other = false
