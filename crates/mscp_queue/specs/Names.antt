-- What tells a command apart from the others that wait or whose ends weren't taken: the connection that it came by, and
-- its reference number (manual: each host numbers its own). Where commands are told apart, it is by these words.
use Rattle.std.specs.Prelude.{ℕ, Bool, true, false, ◌&&◌, nat_eq}
use Rattle.mscp_drive.specs.declared.connection.Connection.{Connection}
use Rattle.mscp_drive.specs.declared.connection.Connection.TheVariants.{First, Second}
use Rattle.mscp_queue.specs.declared.name.Name.{Name}

-- both are the same connection
abbrev pub same_connection : Connection → Connection → Bool
same_connection First First = true
same_connection Second Second = true
same_connection one other = false

-- both name the same command
abbrev pub same_name : Name → Name → Bool
same_name one other = same_connection one.connection other.connection && nat_eq one.reference other.reference

-- the name that a reference number is on a connection
abbrev pub name_on : Connection → ℕ → Name
name_on connection reference = record { connection = connection; reference = reference }
