-- What the order of a command tells of its opcode, and what is read of one that has no known opcode.
use Rattle.std.proofs.Common.{arith, ◌≡◌, ℕ, ◌<◌, ◌^◌, Option, None}
use Rattle.mscp_packet.proofs.Numbers.{four, two}
use Rattle.mscp_packet.specs.Commands.{IsCommand}
use Rattle.mscp_packet.specs.Opcodes.{opcode_of}
use Rattle.mscp_packet.specs.declared.class.Opcode.{Opcode}
use Rattle.mscp_packet.specs.declared.command.Order.TheVariants as orders
use Rattle.mscp_c.specs.declared.command_writing.CommandIn.{CommandIn}
use Rattle.mscp_c.specs.CommandWritten.{command_given, message_bytes, order_given}

pub none_of : (o : Option Opcode) (g : CommandIn) (byte status : ℕ) → order_given o g ≡ orders.Invalid byte status
    → o ≡ None
none_of o g byte status e = search arith

pub none_read : (g : CommandIn) → opcode_of g.opcode ≡ None → g.reference < 2 ^ 32 → g.unit < 2 ^ 16
    → IsCommand (message_bytes g) (command_given g)
none_read g none r u = search (arith, none, four, two)
