-- The ends of commands that are answered when they come, as formulas of the command, its unit's state, and numbers.
-- Nothing here asks what came before.
use Rattle.std.specs.Prelude.{ℕ, Bool, if◌then◌else◌, Option, Some, None}
use Rattle.mscp_packet.specs.declared.command.Order.{Order}
use Rattle.mscp_packet.specs.declared.command.Order.TheVariants as orders
use Rattle.mscp_packet.specs.declared.command.Command.{Command}
use Rattle.mscp_packet.specs.declared.end.EndBody.{EndBody}
use Rattle.mscp_packet.specs.declared.end.EndBody.TheVariants as bodies
use Rattle.mscp_packet.specs.declared.end.End.{End}
use Rattle.mscp_packet.specs.Ends.{refused_body}
use Rattle.mscp_packet.specs.Statuses.{success, unit_available}
use Rattle.mscp_drive.specs.Shape.{Shape}
use Rattle.mscp_drive.specs.declared.block.Block.{Block}
use Rattle.mscp_queue.specs.Orders.{endcode}
use Rattle.mscp_queue.specs.Outcomes.{end_with, outcome_at}
use Rattle.mscp_drive.specs.Settings.{Settings, unit_shape}
use Rattle.mscp_controller.specs.Arrival.{fault_of}

-- the end of a command that is refused with this status (manual)
abbrev pub refused_end : Command → ℕ → End
refused_end command status = end_with command status (refused_body (endcode command.order))

-- ---- answered when it comes

-- the status of a GET UNIT STATUS to a unit that may be online (profile)
abbrev pub unit_status : Bool → ℕ
unit_status online = if online then success else unit_available

-- the status of an answered command that isn't refused (manual)
abbrev pub answer_status : Bool → Order → ℕ
answer_status online orders.UnitStatus = unit_status online
answer_status online order = success

-- what GET UNIT STATUS tells of a unit, in either state (manual, the same body in both is the profile's)
abbrev pub unit_body : Shape → EndBody
unit_body s = bodies.UnitStatus s.id s.media s.track s.group s.cylinder

-- what SET CONTROLLER CHARACTERISTICS tells of a controller (manual)
abbrev pub controller_body : Settings → EndBody
controller_body c = bodies.Controller c.timeout c.id

-- the body of an answered order that isn't refused, to this unit and with the figure that it asks for (manual)
abbrev pub answer_body : Settings → ℕ → ℕ → Order → EndBody
answer_body c figure number (orders.Abort other) = bodies.Abort other
answer_body c figure number (orders.Status other) = bodies.Status other figure
answer_body c figure number orders.UnitStatus = unit_body (unit_shape c number)
answer_body c figure number (orders.SetController version) = controller_body c
answer_body c figure number order = refused_body (endcode order)

-- the end of an answered command that is refused with this status, or isn't (manual)
abbrev pub own_end_with : Settings → Bool → ℕ → Command → Option ℕ → End
own_end_with c online figure command (Some status) = refused_end command status
own_end_with c online figure command None =
    end_with command (answer_status online command.order) (answer_body c figure command.unit command.order)

-- the end of an answered command, where its unit is online or not, with the figure that it asks for (manual)
abbrev pub own_end : Settings → Bool → ℕ → Command → End
own_end c online figure command = own_end_with c online figure command (fault_of c command)

-- ---- served

-- the end of a command to its own unit that the step ends, when so many of its blocks were good before (manual)
abbrev pub outcome_of : Settings → Bool → Command → ℕ → Block → End
outcome_of c online command good k = outcome_at (unit_shape c command.unit) online command good k
