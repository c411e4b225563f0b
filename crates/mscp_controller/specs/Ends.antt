-- The ends that a run makes, with their contents. Each goes to the connection of its command.
use Rattle.std.specs.Prelude.{ℕ, if◌then◌else◌, List, [], ◌∷◌, ◌++◌, map, filter, Option, Some, None, option_to_list}
use Rattle.mscp_packet.specs.declared.command.Order.{Order}
use Rattle.mscp_packet.specs.declared.command.Order.TheVariants as orders
use Rattle.mscp_packet.specs.declared.command.Command.{Command}
use Rattle.mscp_packet.specs.declared.end.End.{End}
use Rattle.mscp_packet.specs.Commands.{command_of}
use Rattle.mscp_drive.specs.declared.block.Block.{Block}
use Rattle.mscp_drive.specs.Settings.{Settings}
use Rattle.mscp_controller.specs.Arrival.{fault_of}
use Rattle.mscp_controller.specs.Outcomes.{own_end, outcome_of}
use Rattle.mscp_queue.specs.Outcomes.{aborted_end}
use Rattle.mscp_drive.specs.declared.connection.Connection.{Connection}
use Rattle.mscp_queue.specs.Names.{name_on, same_connection, same_name}
use Rattle.mscp_controller.specs.History.{Moment, Trace, sent_bytes, answers, Service, service_in}
use Rattle.mscp_controller.specs.Commands.{command, name, unit, waiting, good}
use Rattle.mscp_controller.specs.Figures.{figure_of}
use Rattle.mscp_controller.specs.Units.{is_online}

-- ---- answered when they come

-- the figure that an order of a connection asks for: that of a command of the same connection (manual, "Host Command
-- Timeouts")
abbrev pub figure_asked : Settings → Connection → Trace → Order → ℕ
figure_asked c via t (orders.Status other) = figure_of c t (name_on via other)
figure_asked c via t order = 0

-- the waiting commands that an order of a connection names to be aborted: those of the same connection (manual)
abbrev pub named : Connection → Trace → Order → List ℕ
named via t (orders.Abort other) = filter (λ x. same_name (name t x) (name_on via other)) (waiting t)
named via t order = []

-- the same of an order that is refused with this status, or isn't: what is refused aborts nothing (manual)
abbrev pub aborted_unless : Connection → Trace → Order → Option ℕ → List ℕ
aborted_unless via t order (Some fault) = []
aborted_unless via t order None = named via t order

-- the waiting commands that a message of a connection aborts (manual)
abbrev pub aborted : Settings → Connection → Trace → Command → List ℕ
aborted c via t sent = aborted_unless via t sent.order (fault_of c sent)

-- the ends of the commands that a message aborts, and then its own (manual)
abbrev pub answer_to : Settings → Connection → Trace → Command → List End
answer_to c via t sent =
    map (λ x. aborted_end (command t x) (good t x)) (aborted c via t sent)
    ++ own_end c (is_online t sent.unit) (figure_asked c via t sent.order) sent ∷ []

-- the ends that an answered message of a connection makes after t (manual)
unfoldable pub answer : Settings → Connection → Trace → List ℕ → List End
answer c via t b = answer_to c via t (command_of b)

-- ---- served

-- the end that a step with this block gives to y (manual)
unfoldable pub outcome : Settings → Trace → Block → ℕ → End
outcome c t k y = outcome_of c (is_online t (unit t y)) (command t y) (good t y) k

-- the end that a step makes for a connection, if it ends a command of it (manual)
abbrev pub ends_served : Connection → Option Service → List End
ends_served via None = []
ends_served via (Some s) = if same_connection s.connection via then option_to_list s.ended else []

-- ---- all of them

-- the ends that the moment m, which comes after t, makes for a connection (manual)
abbrev pub ends_at : Settings → Connection → Trace → Moment → List End
ends_at c via t m =
    (if answers via m.1 then answer c via t (sent_bytes m.0) else []) ++ ends_served via (service_in m.1)
