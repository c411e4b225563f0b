-- The message of a command that a program in C gives by its fields.
use Rattle.std.specs.Prelude.{ℕ, ◌+◌, List, [], ◌∷◌, ◌++◌, take, drop, replicate, Option, Some, None}
use Rattle.mscp_packet.specs.Common.{little_bytes}
use Rattle.mscp_packet.specs.Commands.{IsCommand, command_bytes, parameters}
use Rattle.mscp_packet.specs.Opcodes.{opcode_of}
use Rattle.mscp_packet.specs.Statuses.{invalid_opcode}
use Rattle.mscp_packet.specs.declared.class.Opcode.{Opcode}
use Rattle.mscp_packet.specs.declared.class.Opcode.TheVariants as codes
use Rattle.mscp_packet.specs.declared.command.Command.{Command}
use Rattle.mscp_packet.specs.declared.command.Order.{Order}
use Rattle.mscp_packet.specs.declared.command.Order.TheVariants as orders
use Rattle.mscp_c.specs.declared.command_writing.CommandIn.{CommandIn}
use Rattle.mscp_c.specs.declared.outs.PacketOut.{PacketOut}
use Rattle.mscp_c.specs.Told.{PacketTold}

-- a message of 32 bytes that has this opcode byte, and is zero beside it
abbrev pub blank : ℕ → List ℕ
blank opcode = replicate 8 0 ++ (opcode ∷ []) ++ replicate 23 0

-- what is asked for: the fields that the opcode has (manual, "Command Messages")
abbrev pub order_given : Option Opcode → CommandIn → Order
order_given None g = orders.Invalid g.opcode invalid_opcode
order_given (Some codes.Abort) g = orders.Abort g.other
order_given (Some codes.Status) g = orders.Status g.other
order_given (Some codes.SetController) g = orders.SetController g.version
order_given (Some (codes.Move kind)) g = orders.Move kind g.bytes g.lbn
order_given (Some opcode) g = parameters opcode (blank g.opcode)

abbrev pub command_given : CommandIn → Command
command_given g = record { reference = g.reference; unit = g.unit; order = order_given (opcode_of g.opcode) g }

-- a number of two or of four bytes over those that stand at a place
abbrev pub with_two : ℕ → ℕ → List ℕ → List ℕ
with_two at x b = take at b ++ little_bytes 2 x ++ drop (at + 2) b

abbrev pub with_four : ℕ → ℕ → List ℕ → List ℕ
with_four at x b = take at b ++ little_bytes 4 x ++ drop (at + 4) b

-- what no controller of this project looks at: the controller's flags and the host timeout of SET CONTROLLER
-- CHARACTERISTICS, and the first four bytes of the buffer descriptor of a transfer (manual, "Command Messages")
abbrev pub beside : Option Opcode → CommandIn → List ℕ → List ℕ
beside (Some codes.SetController) g b = with_two 16 g.timeout (with_two 14 g.flags b)
beside (Some (codes.Move kind)) g b = with_four 16 g.buffer b
beside opcode g b = b

-- the message: that of the command, with the modifiers and what stands beside
abbrev pub message_bytes : CommandIn → List ℕ
message_bytes g = beside (opcode_of g.opcode) g (with_two 10 g.modifiers (command_bytes (command_given g)))

-- the message is told, and what a controller reads in it is the command
pub record MessageTold (g : CommandIn) (old new : PacketOut) : Type 0 where
  pub told : PacketTold (message_bytes g) old new
  pub command : IsCommand (message_bytes g) (command_given g)
