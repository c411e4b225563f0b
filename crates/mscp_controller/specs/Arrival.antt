-- How a message is judged when it comes. Nothing here asks what came before it.
use Rattle.std.specs.Prelude.{ℕ, Bool, false, not, ◌&&◌, nat_eq, nat_lt, if◌then◌else◌, ◌==◌, List, length, slice_index, Option, Some, None, is_none, Result}
use Rattle.std.specs.List.{list_any}
use Rattle.mscp_packet.specs.declared.command.Order.{Order}
use Rattle.mscp_packet.specs.declared.command.Order.TheVariants as orders
use Rattle.mscp_packet.specs.declared.command.Command.{Command}
use Rattle.mscp_packet.specs.Commands.{order_class}
use Rattle.mscp_packet.specs.Number.{num}
use Rattle.mscp_packet.specs.Opcodes.{class, is_immediate_class}
use Rattle.mscp_packet.specs.Statuses.{invalid_version, unit_offline}
use Rattle.mscp_drive.specs.Shape.{Shape}
use Rattle.mscp_drive.specs.Extent as extent
use Rattle.mscp_queue.specs.Orders.{order_weight}
use Rattle.mscp_controller.specs.declared.entry.SendFault.{SendFault}
use Rattle.mscp_controller.specs.declared.entry.SendFault.TheVariants.{Short, Long, NoCredit, LastCredit, Doubled}
use Rattle.mscp_drive.specs.Settings.{Settings, unit_found}

-- ---- credits

-- a reference number is among these
abbrev pub holds : List ℕ → ℕ → Bool
holds references reference = list_any (λ x. nat_eq x reference) references

-- why a command with this opcode byte and reference number is refused, the first that holds, where so many
-- credits are free and commands with these reference numbers wait or have ends that weren't taken (manual,
-- "Flow Control", their order is the profile's)
abbrev pub credit_fault : ℕ → List ℕ → ℕ → ℕ → Option SendFault
credit_fault balance outstanding opcode reference =
    if balance == 0 then Some NoCredit else (
    if (balance == 1) && not (is_immediate_class (class opcode)) then Some LastCredit else (
    if holds outstanding reference then Some Doubled else None))

-- why a message is refused, the first that holds (manual, their order is the profile's)
abbrev pub refusal : ℕ → List ℕ → List ℕ → Option SendFault
refusal balance outstanding b =
    if nat_lt (length b) 12 then Some Short else (
    if nat_lt 64 (length b) then Some Long else
    credit_fault balance outstanding (slice_index b 8) (num b 0 4))

-- ---- orders

-- answered when it comes, without a step (manual, "Command Categories and Execution Order")
abbrev pub is_immediate : Order → Bool
is_immediate order = is_immediate_class (order_class order)

-- the status that refuses a transfer to a unit that may not be configured (manual)
abbrev pub move_fault : Settings → ℕ → ℕ → Option Shape → Option ℕ
move_fault c count block None = Some unit_offline
move_fault c count block (Some unit) = extent.range_fault c.longest count block unit

-- the same of another command to a unit (manual)
abbrev pub unit_fault : Option Shape → Option ℕ
unit_fault None = Some unit_offline
unit_fault (Some unit) = None

-- the status that refuses SET CONTROLLER CHARACTERISTICS of a version: there is version 0 alone (manual)
abbrev pub version_fault : ℕ → Option ℕ
version_fault version = if version == 0 then None else Some invalid_version

-- the status that refuses an order to a unit when it comes, if one does. ABORT, GET COMMAND STATUS and SET CONTROLLER
-- CHARACTERISTICS look at no unit (manual, the order of the tests is the profile's)
abbrev pub order_fault : Settings → ℕ → Order → Option ℕ
order_fault c number (orders.Invalid opcode status) = Some status
order_fault c number (orders.Abort other) = None
order_fault c number (orders.Status other) = None
order_fault c number (orders.SetController version) = version_fault version
order_fault c number (orders.Move kind count block) = move_fault c count block (unit_found c number)
order_fault c number order = unit_fault (unit_found c number)

-- the same of a command (manual)
abbrev pub fault_of : Settings → Command → Option ℕ
fault_of c command = order_fault c command.unit command.order

-- how many steps a command takes, or the status that refuses it (manual, the steps are the profile's)
abbrev pub judged : Settings → Command → Result ℕ ℕ
judged c command = extent.weighed (fault_of c command) (order_weight command.order)

-- whether a command that isn't refused waits for steps (manual)
abbrev pub is_queued : Settings → Command → Bool
is_queued c command = if is_immediate command.order then false else is_none (fault_of c command)
