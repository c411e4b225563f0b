-- The commands of a run. A command is the position at which it was queued, so a reference number that is
-- used again, or on the other connection, names another command.
use Rattle.std.specs.Prelude.{ℕ, ◌+◌, ◌-◌, Bool, false, not, ◌&&◌, nat_eq, nat_lt, List, drop, filter, count_by, Option, Some, None, is_some, Ok}
use Rattle.std.specs.List.{list_any, list_all}
use Rattle.mscp_packet.specs.declared.command.Order.{Order}
use Rattle.mscp_packet.specs.declared.command.Command.{Command}
use Rattle.mscp_packet.specs.Commands.{command_of}
use Rattle.mscp_controller.specs.declared.entry.Entry.{Entry}
use Rattle.mscp_controller.specs.declared.entry.Entry.TheVariants as entries
use Rattle.mscp_controller.specs.declared.entry.Sent.TheVariants as sents
use Rattle.mscp_drive.specs.declared.connection.Connection.{Connection}
use Rattle.mscp_queue.specs.declared.name.Name.{Name}
use Rattle.mscp_queue.specs.Names.{name_on, same_connection, same_name}
use Rattle.mscp_queue.specs.Orders.{order_weight}
use Rattle.mscp_controller.specs.History.{Moment, Trace, moment, positions, connection_of, sent_bytes, is_step, is_good, queues, Service, service_in}

-- ---- what was asked for

-- the command of a moment's message (manual)
abbrev pub sent_command : Moment → Command
sent_command m = command_of (sent_bytes m.0)

-- what was queued at a position (manual)
unfoldable pub command : Trace → ℕ → Command
command t x = command_of (sent_bytes (moment t x).0)

-- its reference number (manual)
abbrev pub reference : Trace → ℕ → ℕ
reference t x = (command t x).reference

-- the connection that it came by (manual)
abbrev pub connection : Trace → ℕ → Connection
connection t x = connection_of (moment t x).0

-- its name, which tells it from the others that wait (manual)
abbrev pub name : Trace → ℕ → Name
name t x = name_on (connection t x) (reference t x)

-- its unit (manual)
abbrev pub unit : Trace → ℕ → ℕ
unit t x = (command t x).unit

-- its order (manual)
abbrev pub order : Trace → ℕ → Order
order t x = (command t x).order

-- how many steps it takes (profile)
abbrev pub weight : Trace → ℕ → ℕ
weight t x = order_weight (order t x)

-- ---- what an entry says of the command of a name

-- the name of the command that was served
abbrev pub service_name : Service → Name
service_name s = name_on s.connection s.reference

-- the service is of the command of this name (profile)
abbrev pub service_is : Name → Option Service → Bool
service_is n None = false
service_is n (Some s) = same_name (service_name s) n

-- the service is the last of the command of this name (profile)
abbrev pub service_ends : Name → Option Service → Bool
service_ends n None = false
service_ends n (Some s) = same_name (service_name s) n && is_some s.ended

-- the service is the first of the command of this name (profile)
abbrev pub service_starts : Name → Option Service → Bool
service_starts n None = false
service_starts n (Some s) = same_name (service_name s) n && s.started

-- the message that was answered aborted the command of this name, which is of the same connection (manual)
abbrev pub aborts : Name → Entry → Bool
aborts n (entries.Sent via (Ok (sents.Answered reference (Some other)))) = same_name (name_on via other) n
aborts n entry = false

-- the command of this name is served (profile)
abbrev pub serves_in : Name → Entry → Bool
serves_in n entry = service_is n (service_in entry)

-- the command of this name starts (profile)
abbrev pub starts_in : Name → Entry → Bool
starts_in n entry = service_starts n (service_in entry)

-- the command of this name ends, by a step or by an abort (manual)
abbrev pub ends_in : Name → Entry → Bool
ends_in n (entries.Stepped report) = service_ends n (service_in (entries.Stepped report))
ends_in n (entries.Sent via sent) = aborts n (entries.Sent via sent)
ends_in n entry = false

-- ---- who waits

-- x was queued, and nothing after it has ended it (manual)
unfoldable pub is_waiting : Trace → ℕ → Bool
is_waiting t x = queues (moment t x).1 && not (list_any (λ m. ends_in (name t x) m.1) (drop (x + 1) t))

-- the commands that wait, in the order in which they came (manual)
unfoldable pub waiting : Trace → List ℕ
waiting t = filter (is_waiting t) (positions t)

-- those of them that came by a connection (manual)
abbrev pub waiting_by : Connection → Trace → List ℕ
waiting_by via t = filter (λ x. same_connection (connection t x) via) (waiting t)

-- the commands that wait and came before x (manual)
abbrev pub earlier : Trace → ℕ → List ℕ
earlier t x = filter (λ z. nat_lt z x) (waiting t)

-- the commands that wait and came after x (manual)
abbrev pub later : Trace → ℕ → List ℕ
later t x = filter (λ y. nat_lt x y) (waiting t)

-- ---- service

-- how often x was served (profile)
unfoldable pub done : Trace → ℕ → ℕ
done t x = count_by (λ m. serves_in (name t x) m.1) (drop (x + 1) t)

-- how often x was served and its block was good (profile)
unfoldable pub good : Trace → ℕ → ℕ
good t x = count_by (λ m. serves_in (name t x) m.1 && is_good m.0) (drop (x + 1) t)

-- how many steps are left of x (profile)
abbrev pub left : Trace → ℕ → ℕ
left t x = weight t x - done t x

-- x was served: where it waits, it is in service (profile)
abbrev pub in_service : Trace → ℕ → Bool
in_service t x = nat_lt 0 (done t x)

-- nothing is in service (profile)
abbrev pub is_idle : Trace → Bool
is_idle t = list_all (λ x. nat_eq (done t x) 0) (waiting t)

-- how many steps there were after x (profile)
abbrev pub steps_after : Trace → ℕ → ℕ
steps_after t x = count_by (λ m. is_step m.0) (drop (x + 1) t)
