-- What is written of a command.
use Rattle.mscp_packet.proofs.Common.{◌≡◌, ℕ, ◌≤◌, refl, sym, ap, arith, slice_index, IsZeroBeside, opcode_of, CommandBytesAreMessages, HasRange, IsCommand, IsValidOrder, command_bytes, command_fields, command_of, order_with, written, Command, Order}
use Rattle.mscp_packet.proofs.Numbers.{two, four}
use Rattle.mscp_packet.proofs.Blanks.{zero_beside}
use Rattle.mscp_packet.specs.declared.command.MoveKind.TheVariants as moves
use Rattle.mscp_packet.specs.declared.command.Order.TheVariants as orders

abbrev command : ℕ → ℕ → Order → Command
command r u o = record { reference = r; unit = u; order = o }

-- what the bytes of a valid command ask for
order_back : (r u : ℕ) (o : Order) → IsValidOrder o → HasRange o
    → let b = command_bytes (command r u o) in o ≡ order_with (opcode_of (slice_index b 8)) b
order_back r u (orders.Abort other) valid fits = ap orders.Abort (sym (four other fits))
order_back r u (orders.Status other) valid fits = ap orders.Status (sym (four other fits))
order_back r u (orders.SetController version) valid fits = ap orders.SetController (sym (two version fits))
order_back r u (orders.Move moves.Access count block) valid fits = search (arith, four)
order_back r u (orders.Move moves.Erase count block) valid fits = search (arith, four)
order_back r u (orders.Move moves.Compare count block) valid fits = search (arith, four)
order_back r u (orders.Move moves.Read count block) valid fits = search (arith, four)
order_back r u (orders.Move moves.Write count block) valid fits = search (arith, four)
order_back r u (orders.Invalid byte status) valid fits = absurd valid
order_back r u o valid fits = refl

-- which is 12 to 64 bytes
written_span : (o : Order) → (12 ≤ written o) × (written o ≤ 64)
written_span o = search arith

-- zero at every place that isn't named
pub command_zeros : (r u : ℕ) (o : Order) → IsZeroBeside (command_fields o) (command_bytes (command r u o))
command_zeros r u o = search (arith, zero_beside)

-- the bytes of a valid command are a message of it
pub command_bytes_are_messages : CommandBytesAreMessages
command_bytes_are_messages c valid fits = search (arith, written, written_span, four, two, order_back)

-- the bytes of any command are a message
pub command_read : (c : Command) → IsCommand (command_bytes c) (command_of (command_bytes c))
unfolding command_of
command_read c = search (arith, written, written_span)
