-- Each unit's state and head after a run, and what starts cost its head.
use Rattle.std.specs.Prelude.{ℕ, Bool, true, false, nat_eq, nat_lt, if◌then◌else◌, ◌==◌, List, [], ◌∷◌, Option, Some, None, option_map, option_to_list, flat_map}
use Rattle.mscp_packet.specs.declared.command.Order.{Order}
use Rattle.mscp_packet.specs.declared.command.Order.TheVariants as orders
use Rattle.mscp_packet.specs.declared.end.End.{End}
use Rattle.mscp_drive.specs.Shape.{Shape, cylinder_of}
use Rattle.mscp_drive.specs.declared.head.Head.{Head}
use Rattle.mscp_drive.specs.Settings.{Settings, unit_shape}
use Rattle.mscp_queue.specs.declared.name.Name.{Name}
use Rattle.mscp_queue.specs.Names.{same_name}
use Rattle.mscp_queue.specs.Outcomes.{is_success}
use Rattle.mscp_controller.specs.History.{Moment, Trace, collect, last_or, Service, service_in}
use Rattle.mscp_queue.specs.Orders.{order_cost}
use Rattle.mscp_controller.specs.Commands.{name, service_name, unit, order, waiting}

-- ---- states

-- the state that an order gives to its unit where it ends with this status: true is online. ONLINE and AVAILABLE that
-- end with Success give one, and nothing else does (manual)
abbrev pub states_given : Order → ℕ → List Bool
states_given orders.Online status = if is_success status then true ∷ [] else []
states_given orders.Available status = if is_success status then false ∷ [] else []
states_given order status = []

-- the same of an order that ends so, or doesn't end (manual)
abbrev pub states_ended : Order → Option End → List Bool
states_ended order None = []
states_ended order (Some e) = states_given order e.status

-- the same where this service is one of the command of this name (manual)
abbrev pub states_served : Name → Order → Option Service → List Bool
states_served n order None = []
states_served n order (Some s) = if same_name (service_name s) n then states_ended order s.ended else []

-- the state that the moment m, which comes after t, gives to the unit of this number, by a step that ends
-- one of its commands (manual)
abbrev pub states_at : ℕ → Trace → Moment → List Bool
states_at u t m =
    flat_map (λ x. if nat_eq (unit t x) u then states_served (name t x) (order t x) (service_in m.1)
    else []) (waiting t)

-- the unit of this number is online: the last ONLINE or AVAILABLE of the unit that a step ended well was an
-- ONLINE. At first it is available (manual)
unfoldable pub is_online : Trace → ℕ → Bool
is_online t u = last_or (collect (states_at u) t) false

-- ---- heads

-- the cylinder of the block that a step of the unit touched, if it touched one (manual)
abbrev pub cylinder_touched : Shape → ℕ → Option Service → List ℕ
cylinder_touched shape u None = []
cylinder_touched shape u (Some s) =
    if nat_eq s.unit u then option_to_list (option_map (cylinder_of shape) s.lbn) else []

-- the cylinder of the unit's head: that of the last block that was touched, 0 at first (profile)
unfoldable pub head_cylinder : Settings → Trace → ℕ → ℕ
head_cylinder c t u = last_or (collect (λ p m. cylinder_touched (unit_shape c u) u (service_in m.1)) t) 0

-- the way from one cylinder to another, if they differ: true is up (profile)
abbrev pub way : ℕ → ℕ → List Bool
way from to = if from == to then [] else nat_lt from to ∷ []

-- the way that a step of the unit goes from this cylinder, if it starts a command and moves the head (profile)
abbrev pub way_started : Shape → ℕ → ℕ → Option Service → List Bool
way_started shape u from None = []
way_started shape u from (Some s) = if s.started then flat_map (way from) (cylinder_touched shape u (Some s)) else []

-- the unit's head goes up: the last start that moved it did so. At first it goes up (profile)
unfoldable pub head_up : Settings → Trace → ℕ → Bool
head_up c t u =
    last_or (collect (λ p m. way_started (unit_shape c u) u (head_cylinder c p u) (service_in m.1)) t) true

-- where the unit's head is, and which way it goes (profile)
abbrev pub head : Settings → Trace → ℕ → Head
head c t u = record { cylinder = head_cylinder c t u; up = head_up c t u }

-- what the start of y costs the head of its unit: the way to its first block, and nothing where it is sequential
-- (profile)
unfoldable pub cost : Settings → Trace → ℕ → ℕ
cost c t y = order_cost (unit_shape c (unit t y)) (head c t (unit t y)) (order t y)
