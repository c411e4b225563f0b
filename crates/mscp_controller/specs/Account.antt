-- The account of each connection's host: its ends, those of them that it didn't take, the reference numbers that are in
-- use, and its credits. All that a run owes a host is asked for here.
use Rattle.std.specs.Prelude.{ℕ, ◌-◌, List, ◌++◌, length, map, drop, count_by}
use Rattle.mscp_packet.specs.declared.end.End.{End}
use Rattle.mscp_drive.specs.declared.connection.Connection.{Connection}
use Rattle.mscp_drive.specs.Settings.{Settings, credits_of}
use Rattle.mscp_controller.specs.History.{Trace, collect, takes}
use Rattle.mscp_controller.specs.Commands.{reference, waiting_by}
use Rattle.mscp_controller.specs.Ends.{ends_at}

-- all ends that went to a connection, in the order in which they were made (manual)
unfoldable pub ends : Settings → Connection → Trace → List End
ends c via t = collect (ends_at c via) t

-- those of them that weren't taken (manual, "Flow Control")
unfoldable pub untaken : Settings → Connection → Trace → List End
untaken c via t = drop (count_by (λ m. takes via m.1) t) (ends c via t)

-- the credits of a connection that are free (manual, "Flow Control")
unfoldable pub balance : Settings → Connection → Trace → ℕ
balance c via t = credits_of c via - length (waiting_by via t) - length (untaken c via t)

-- the reference numbers of the commands of a connection that wait or whose ends weren't taken (manual)
unfoldable pub outstanding : Settings → Connection → Trace → List ℕ
outstanding c via t = map (reference t) (waiting_by via t) ++ map (λ e. e.reference) (untaken c via t)
