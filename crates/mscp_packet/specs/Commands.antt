-- The layout of command messages. Every one has its reference number in bytes 0-3, its unit number in 4-5, its
-- opcode in 8, and its parameters from 12 on (manual, "Command Messages").
use Rattle.std.specs.Prelude.{◌≡◌, ℕ, ◌<◌, ◌≤◌, ◌^◌, nat_lt, if◌then◌else◌, List, [], ◌∷◌, ◌++◌, length, slice_index, replicate, Option, Some, None}
use Rattle.byteorder.specs.Endian.{little_bytes}
use Rattle.mscp_packet.specs.Number.{num}
use Rattle.mscp_packet.specs.Places.{Field, field}
use Rattle.mscp_packet.specs.Statuses.{invalid_length, invalid_opcode}
use Rattle.mscp_packet.specs.Opcodes.{class_of_opcode, least, opcode_of, row_of, unknown_name}
use Rattle.mscp_packet.specs.declared.class.Class.{Class}
use Rattle.mscp_packet.specs.declared.class.Opcode.{Opcode}
use Rattle.mscp_packet.specs.declared.class.Opcode.TheVariants as codes
use Rattle.mscp_packet.specs.declared.command.Order.{Order}
use Rattle.mscp_packet.specs.declared.command.Order.TheVariants as orders
use Rattle.mscp_packet.specs.declared.command.Command.{Command}

-- ---- reading

-- what a long enough command of an opcode asks for (manual, "Command Messages")
abbrev pub parameters : Opcode → List ℕ → Order
parameters codes.Abort b = orders.Abort (num b 12 4)
parameters codes.Status b = orders.Status (num b 12 4)
parameters codes.UnitStatus b = orders.UnitStatus
parameters codes.SetController b = orders.SetController (num b 12 2)
parameters codes.Available b = orders.Available
parameters codes.Online b = orders.Online
parameters codes.SetUnit b = orders.SetUnit
parameters (codes.Move kind) b = orders.Move kind (num b 12 4) (num b 28 4)

-- what a message with this opcode or none asks for. The opcode is judged before the length (profile)
abbrev pub order_with : Option Opcode → List ℕ → Order
order_with None b = orders.Invalid (slice_index b 8) invalid_opcode
order_with (Some o) b =
    if nat_lt (length b) (least o) then orders.Invalid (slice_index b 8) invalid_length else parameters o b

-- the bytes b, of which there are 12 to 64 (profile), are this command (manual, "Command Messages"). Nothing is asked
-- of any other place
pub record IsCommand (b : List ℕ) (command : Command) : Type 0 where
  pub low : 12 ≤ length b
  pub high : length b ≤ 64
  pub reference : command.reference ≡ num b 0 4
  pub unit : command.unit ≡ num b 4 2
  pub order : command.order ≡ order_with (opcode_of (slice_index b 8)) b

-- the command that a message is, if it is one (manual, "Command Messages")
unfoldable pub command_of : List ℕ → Command
command_of b =
    record { reference = num b 0 4; unit = num b 4 2; order = order_with (opcode_of (slice_index b 8)) b }

-- ---- writing

-- the opcode of an order, unless it is no valid command
abbrev pub order_opcode : Order → Option Opcode
order_opcode (orders.Abort other) = Some codes.Abort
order_opcode (orders.Status other) = Some codes.Status
order_opcode orders.UnitStatus = Some codes.UnitStatus
order_opcode (orders.SetController version) = Some codes.SetController
order_opcode orders.Available = Some codes.Available
order_opcode orders.Online = Some codes.Online
order_opcode orders.SetUnit = Some codes.SetUnit
order_opcode (orders.Move kind count block) = Some (codes.Move kind)
order_opcode (orders.Invalid byte status) = None

-- the opcode byte that an order is written with (manual)
abbrev pub opcode_byte : Order → ℕ
opcode_byte (orders.Abort other) = (row_of codes.Abort).byte
opcode_byte (orders.Status other) = (row_of codes.Status).byte
opcode_byte orders.UnitStatus = (row_of codes.UnitStatus).byte
opcode_byte (orders.SetController version) = (row_of codes.SetController).byte
opcode_byte orders.Available = (row_of codes.Available).byte
opcode_byte orders.Online = (row_of codes.Online).byte
opcode_byte orders.SetUnit = (row_of codes.SetUnit).byte
opcode_byte (orders.Move kind count block) = (row_of (codes.Move kind)).byte
opcode_byte (orders.Invalid byte status) = byte

-- what the manual calls it
abbrev pub name_of_opcode : Option Opcode → List ℕ
name_of_opcode None = unknown_name
name_of_opcode (Some o) = (row_of o).name

abbrev pub order_name : Order → List ℕ
order_name order = name_of_opcode (order_opcode order)

-- how it is scheduled (manual, "Command Categories and Execution Order"): what is no valid command as what has no known
-- opcode
abbrev pub order_class : Order → Class
order_class order = class_of_opcode (order_opcode order)

-- what is written from byte 12 on (manual, "Command Messages"). The controller flags and the host timeout of SET
-- CONTROLLER CHARACTERISTICS are zero, and so is the buffer descriptor of a transfer (profile)
abbrev pub parameter_bytes : Order → List ℕ
parameter_bytes (orders.Abort other) = little_bytes 4 other
parameter_bytes (orders.Status other) = little_bytes 4 other
parameter_bytes (orders.SetController version) = little_bytes 2 version ++ replicate 4 0
parameter_bytes (orders.Move kind count block) = little_bytes 4 count ++ replicate 12 0 ++ little_bytes 4 block
parameter_bytes order = []

-- the message that is written of a command (manual, "Command Messages")
abbrev pub command_bytes : Command → List ℕ
command_bytes command =
    little_bytes 4 command.reference
    ++ little_bytes 2 command.unit
    ++ replicate 2 0
    ++ (opcode_byte command.order ∷ [])
    ++ replicate 3 0
    ++ parameter_bytes command.order

-- how many bytes are written: those of the table, or 12 of what is no valid command (profile)
abbrev pub written_with : Option Opcode → ℕ
written_with None = 12
written_with (Some o) = (row_of o).written_length

abbrev pub written : Order → ℕ
written order = written_with (order_opcode order)

-- where the parameters of a command stand (manual, "Command Messages")
abbrev pub parameter_fields : Option Opcode → List Field
parameter_fields (Some codes.Abort) = field 12 4 ∷ []
parameter_fields (Some codes.Status) = field 12 4 ∷ []
parameter_fields (Some codes.SetController) = field 12 2 ∷ []
parameter_fields (Some (codes.Move kind)) = field 12 4 ∷ field 28 4 ∷ []
parameter_fields opcode = []

-- every named place of a command: reference number, unit number, opcode and parameters (manual, "Command Messages")
abbrev pub command_fields : Order → List Field
command_fields order = field 0 4 ∷ field 4 2 ∷ field 8 1 ∷ parameter_fields (order_opcode order)

-- a valid command, so not an Invalid
abbrev pub IsValidOrder : Order → Type 0
IsValidOrder (orders.Invalid byte status) = ⊥
IsValidOrder order = Unit {0}

-- the numbers of an order fit their types
abbrev pub HasRange : Order → Type 0
HasRange (orders.Abort other) = other < 2 ^ 32
HasRange (orders.Status other) = other < 2 ^ 32
HasRange (orders.SetController version) = version < 2 ^ 16
HasRange (orders.Move kind count block) = (count < 2 ^ 32) × (block < 2 ^ 32)
HasRange order = Unit {0}

-- the numbers of a command fit their types
abbrev pub HasCommandRange : Command → Type 0
HasCommandRange command = (command.reference < 2 ^ 32) × (command.unit < 2 ^ 16) × HasRange command.order

-- ---- both ways

-- the bytes of a valid command whose numbers fit their types are a message of it
abbrev pub CommandBytesAreMessages : Type 0
CommandBytesAreMessages =
    (command : Command) → IsValidOrder command.order → HasCommandRange command
    → IsCommand (command_bytes command) command
