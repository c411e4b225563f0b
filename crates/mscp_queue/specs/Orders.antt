-- What an order is to a queue. Nothing here asks what came before it.
use Rattle.std.specs.Prelude.{ℕ, Bool, true, false, bit_or, if◌then◌else◌, ◌==◌}
use Rattle.mscp_packet.specs.declared.command.Order.{Order}
use Rattle.mscp_packet.specs.declared.command.Order.TheVariants as orders
use Rattle.mscp_packet.specs.Commands.{opcode_byte, order_class}
use Rattle.mscp_packet.specs.EndcodeBytes.{unknown}
use Rattle.mscp_packet.specs.Opcodes.{is_sequential_class}
use Rattle.mscp_packet.specs.Statuses.{invalid_opcode}
use Rattle.mscp_drive.specs.declared.head.Head.{Head}
use Rattle.mscp_drive.specs.Extent as extent
use Rattle.mscp_drive.specs.Heads.{sweep_cost}
use Rattle.mscp_drive.specs.Shape.{Shape, cylinder_of, last_cylinder}

-- how many steps an order takes: one for each block of a transfer, and at least one (profile)
abbrev pub order_weight : Order → ℕ
order_weight (orders.Move kind count block) = extent.weight count
order_weight order = 1

-- kept in its place among the commands of its unit (manual, "Command Categories and Execution Order")
abbrev pub is_sequential : Order → Bool
is_sequential order = is_sequential_class (order_class order)

-- a transfer, which may be reordered (manual, "Command Categories and Execution Order")
abbrev pub is_move : Order → Bool
is_move (orders.Move kind count block) = true
is_move order = false

-- the first block of an order: 0 where it has none
abbrev pub first_block : Order → ℕ
first_block (orders.Move kind count block) = block
first_block order = 0

-- what the start of an order costs the head of its unit: the way to the first block, and nothing where it is sequential
-- (profile)
abbrev pub order_cost : Shape → Head → Order → ℕ
order_cost u head (orders.Move kind count block) =
    sweep_cost (last_cylinder u) head.cylinder head.up (cylinder_of u block)
order_cost u head order = 0

-- the endcode: the opcode with the top bit set. An opcode that is unknown has that bit alone (manual, the latter is the
-- profile's)
abbrev pub endcode : Order → ℕ
endcode (orders.Invalid opcode status) = if status == invalid_opcode then unknown else bit_or opcode unknown
endcode order = bit_or (opcode_byte order) unknown
