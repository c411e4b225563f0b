-- The ends of commands as formulas of the command, its unit's state, and numbers. Nothing here asks what
-- came before.
use Rattle.std.specs.Prelude.{◌≡◌, ℕ, ◌+◌, ◌*◌, min, cond, Bool, true, false, ◌&&◌, nat_eq, nat_lt, if◌then◌else◌, Option, Some, None, is_some}
use Rattle.mscp_packet.specs.declared.command.Order.{Order}
use Rattle.mscp_packet.specs.declared.command.Order.TheVariants as orders
use Rattle.mscp_packet.specs.declared.command.Command.{Command}
use Rattle.mscp_packet.specs.declared.end.EndBody.{EndBody}
use Rattle.mscp_packet.specs.declared.end.EndBody.TheVariants as bodies
use Rattle.mscp_packet.specs.declared.end.End.{End}
use Rattle.mscp_packet.specs.Ends.{kind_of_code, refused_body}
use Rattle.mscp_packet.specs.StatusCodes as codes
use Rattle.mscp_packet.specs.Statuses.{success, already_online, aborted, code_of, unit_available}
use Rattle.mscp_drive.specs.Shape.{Shape}
use Rattle.mscp_drive.specs.Heads.{carried, moved}
use Rattle.mscp_drive.specs.declared.head.Head.{Head}
use Rattle.mscp_drive.specs.declared.block.Block.{Block}
use Rattle.mscp_drive.specs.declared.block.Block.TheVariants.{Good, Bad}
use Rattle.mscp_queue.specs.Orders.{endcode, first_block, is_move}

-- the end of a command with this status and body (manual, "End Messages")
abbrev pub end_with : Command → ℕ → EndBody → End
end_with command status body =
    record {
      reference = command.reference;
      unit = command.unit;
      code = endcode command.order;
      status = status;
      body = body;
    }

-- the endcode of the order is one of those that ends have (manual, "End Messages")
abbrev pub IsCoded : Order → Type 0
IsCoded order = is_some (kind_of_code (endcode order)) ≡ true

-- a status whose code is Success (manual)
abbrev pub is_success : ℕ → Bool
is_success status = nat_eq (code_of status) codes.success

-- ---- served

abbrev pub is_good_block : Block → Bool
is_good_block Good = true
is_good_block (Bad status) = false

-- a step of the order touches a block: it is a transfer, and its unit is online (manual)
abbrev pub touches : Bool → Order → Bool
touches online order = is_move order && online

-- the block that a step touches after so many steps (manual)
abbrev pub block_touched : Bool → Order → ℕ → Option ℕ
block_touched online order done = if touches online order then Some (first_block order + done) else None

-- the command isn't ended by the step: it touches a good block, and more steps are left (manual)
abbrev pub goes_on : Bool → Order → Block → ℕ → Bool
goes_on online order k left = touches online order && is_good_block k && nat_lt 1 left

-- the status of a command that a good step ends, and whose unit may be online (manual)
abbrev pub good_status : Bool → Order → ℕ
good_status online (orders.Move kind count block) = if online then success else unit_available
good_status online orders.Online = if online then already_online else success
good_status online order = success

-- the same where the block is bad: a transfer on an available unit never gets to it (manual)
abbrev pub bad_status : Bool → ℕ → Order → ℕ
bad_status online status (orders.Move kind count block) = if online then status else unit_available
bad_status online status order = status

-- the status of a command that the step ends (manual)
abbrev pub outcome_status : Bool → Order → Block → ℕ
outcome_status online order Good = good_status online order
outcome_status online order (Bad status) = bad_status online status order

-- the body of a command that ends when so many of its blocks were good: a transfer's byte count (manual)
abbrev pub moved_body : Order → ℕ → EndBody
moved_body (orders.Move kind count block) good = bodies.Moved (min count (512 * good))
moved_body order good = refused_body (endcode order)

-- what ONLINE and SET UNIT CHARACTERISTICS tell of a unit, with Success alone (manual)
abbrev pub online_body : Shape → ℕ → EndBody
online_body shape status =
    if is_success status then bodies.Online shape.id shape.media shape.size shape.serial else bodies.Online 0 0 0 0

-- the body of a command that the step ends with this status, when so many of its blocks were good (manual)
abbrev pub outcome_body : Shape → ℕ → Order → ℕ → EndBody
outcome_body shape status orders.Online good = online_body shape status
outcome_body shape status orders.SetUnit good = online_body shape status
outcome_body shape status order good = moved_body order good

-- the end of a command to a unit of this shape that the step ends, when so many of its blocks were good before
-- (manual)
abbrev pub outcome_at : Shape → Bool → Command → ℕ → Block → End
outcome_at shape online command good k =
    end_with command (outcome_status online command.order k)
    (outcome_body shape (outcome_status online command.order k) command.order
    (good + cond (touches online command.order && is_good_block k) 1 0))

-- ---- what a step changes of its unit

-- the state that an order gives to its unit where it ends with this status, whose state was `online` (manual)
abbrev pub state_after : Bool → Order → ℕ → Bool
state_after online orders.Online status = if is_success status then true else online
state_after online orders.Available status = if is_success status then false else online
state_after online order status = online

-- a head after a step, which may touch a cylinder, and may be the command's first (profile)
abbrev pub head_after : Bool → Option ℕ → Head → Head
head_after started None head = head
head_after true (Some cylinder) head = moved head cylinder
head_after false (Some cylinder) head = carried head cylinder

-- ---- aborted

-- the end of a waiting command that is aborted when so many of its blocks were good (manual)
abbrev pub aborted_end : Command → ℕ → End
aborted_end command good = end_with command aborted (moved_body command.order good)
