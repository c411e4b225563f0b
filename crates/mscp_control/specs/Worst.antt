-- A run in which a command waits as long as the bound, written out. The unit is brought online. As many READs of the
-- longest transfer come as may wait, over both connections. The first of them runs, and frees a credit. So others of
-- one block may come, one after the other, as many as the budget has blocks, and each passes all that wait. Then these
-- run, in the order in which they came. The last of them is the command that waits. The READs of one block are of the
-- last block of a longest transfer. So each READ but the first finds the head on the cylinder of that block.
use Rattle.std.specs.Prelude.{ℕ, zero, suc, ◌+◌, ◌-◌, ◌*◌, true, nat_eq, nat_lt, if◌then◌else◌, [], ◌∷◌, ◌++◌, Some, None, Ok}
use Rattle.mscp_packet.specs.declared.command.Command.{Command}
use Rattle.mscp_packet.specs.declared.command.MoveKind.TheVariants.{Read}
use Rattle.mscp_packet.specs.declared.command.Order.TheVariants as orders
use Rattle.mscp_packet.specs.declared.end.End.{End}
use Rattle.mscp_packet.specs.declared.end.EndBody.TheVariants as bodies
use Rattle.mscp_packet.specs.Commands.{command_bytes}
use Rattle.mscp_packet.specs.Ends.{end_bytes}
use Rattle.mscp_packet.specs.Statuses.{success}
use Rattle.mscp_drive.specs.Heads.{distance}
use Rattle.mscp_drive.specs.Shape.{Shape, cylinder_of}
use Rattle.mscp_drive.specs.declared.block.Block.TheVariants.{Good}
use Rattle.mscp_drive.specs.declared.connection.Connection.{Connection}
use Rattle.mscp_drive.specs.declared.connection.Connection.TheVariants.{First, Second}
use Rattle.mscp_queue.specs.declared.report.Report.{Report}
use Rattle.mscp_queue.specs.declared.report.Report.TheVariants.{Served}
use Rattle.mscp_queue.specs.Outcomes.{end_with}
use Rattle.mscp_drive.specs.declared.event.Event.TheVariants as events
use Rattle.mscp_controller.specs.declared.entry.Entry.TheVariants as entries
use Rattle.mscp_controller.specs.declared.entry.Sent.TheVariants as sents
use Rattle.mscp_control.specs.declared.worst_case.Transfer.{Transfer}
use Rattle.mscp_drive.specs.Settings.{Settings, room, room_of}
use Rattle.mscp_controller.specs.History.{Moment, Trace}

-- ---- moments

-- a command comes, and is queued
abbrev pub queueing : Connection → Command → Moment
queueing via command = (
  events.Send via (record { items = command_bytes command }),
  entries.Sent via (Ok (sents.Queued command.reference)),
)

-- the connection takes this end
abbrev pub handing : Connection → End → Moment
handing via end = (events.Take via, entries.Taken via (Some (record { items = end_bytes end })))

-- ---- the unit is brought online

abbrev pub online_command : Shape → ℕ → Command
online_command s reference = record { reference = reference; unit = s.number; order = orders.Online }

abbrev pub online_end : Shape → ℕ → End
online_end s reference =
    end_with (online_command s reference) success (bodies.Online s.id s.media s.size s.serial)

abbrev pub opened : Shape → ℕ → Trace
opened s reference =
    queueing First (online_command s reference)
    ∷ (events.Step Good, entries.Stepped (Served First reference s.number None true 0 (Some (online_end s reference))))
    ∷ handing First (online_end s reference)
    ∷ []

-- ---- a READ

-- the command of a READ of the unit
abbrev pub read_command : Shape → Transfer → Command
read_command s x = record { reference = x.reference; unit = s.number; order = orders.Move Read x.bytes x.first }

-- its end, once all its blocks were good
abbrev pub read_end : Shape → Transfer → End
read_end s x = end_with (read_command s x) success (bodies.Moved x.bytes)

-- the block that the head is on before the step of a READ that comes after so many others of it, where it was on this
-- one before the first
abbrev pub block_before : Transfer → ℕ → ℕ → ℕ
block_before x from j = if nat_eq j 0 then from else x.first + j - 1

-- what that step reports
abbrev pub read_report : Shape → Transfer → ℕ → ℕ → Report
read_report s x from j =
    Served x.connection x.reference s.number (Some (x.first + j)) (nat_eq j 0)
    (distance (cylinder_of s (block_before x from j)) (cylinder_of s (x.first + j)))
    (if nat_lt 1 (x.blocks - j) then None else Some (read_end s x))

-- the step
abbrev pub stepping : Shape → Transfer → ℕ → ℕ → Moment
stepping s x from j = (events.Step Good, entries.Stepped (read_report s x from j))

-- t, and then so many steps of the READ
abbrev pub steps_on : Shape → Transfer → ℕ → Trace → ℕ → Trace
steps_on s x from t zero = t
steps_on s x from t (suc j) = steps_on s x from t j ++ stepping s x from j ∷ []

-- t, and then the READ runs to its end, which is taken
abbrev pub runs_on : Shape → Transfer → ℕ → Trace → Trace
runs_on s x from t = steps_on s x from t x.blocks ++ handing x.connection (read_end s x) ∷ []

-- ---- the whole

-- the connection of the command that comes after so many others: the first has as many as may wait of it
abbrev pub connection_at : Settings → ℕ → Connection
connection_at c i = if nat_lt i (room_of c First) then First else Second

-- that command. One byte less than its blocks have, since 32 bits can't count those of the longest of all
abbrev pub long_read : Settings → ℕ → Transfer
long_read c i = record {
  connection = connection_at c i;
  reference = i;
  bytes = 512 * (c.longest - 1) + 511;
  first = 0;
  blocks = c.longest;
}

-- a command that passes them
abbrev pub short_read : Settings → Transfer
short_read c = record {
  connection = First;
  reference = room c;
  bytes = 512;
  first = c.longest - 1;
  blocks = 1;
}

-- t, and then so many long ones come
abbrev pub come_on : Settings → Shape → Trace → ℕ → Trace
come_on c s t zero = t
come_on c s t (suc i) =
    come_on c s t i ++ queueing (connection_at c i) (read_command s (long_read c i)) ∷ []

-- t, and then so many short ones come and run, one after the other
abbrev pub pass_on : Settings → Shape → Trace → ℕ → Trace
pass_on c s t zero = t
pass_on c s t (suc j) =
    runs_on s (short_read c) (c.longest - 1) (pass_on c s t j ++ queueing First (read_command s (short_read c)) ∷ [])

-- t, and then so many long ones run, from the second on
abbrev pub rest_on : Settings → Shape → Trace → ℕ → Trace
rest_on c s t zero = t
rest_on c s t (suc i) = runs_on s (long_read c (i + 1)) (c.longest - 1) (rest_on c s t i)

-- the run, where two or more may wait
abbrev pub worst_of : Settings → Shape → Trace
worst_of c s =
    steps_on s (long_read c (room c - 1)) (c.longest - 1)
    (rest_on c s (pass_on c s (runs_on s (long_read c 0) 0 (come_on c s (opened s (room c)) (room c))) c.budget)
    (room c - 2))
    c.longest
