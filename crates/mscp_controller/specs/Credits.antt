-- What becomes of a message.
use Rattle.std.specs.Prelude.{ℕ, if◌then◌else◌, List, slice_get, Option, Some, None, option_map, Result, Ok, Err}
use Rattle.mscp_packet.specs.declared.command.Command.{Command}
use Rattle.mscp_packet.specs.Commands.{command_of}
use Rattle.mscp_drive.specs.declared.connection.Connection.{Connection}
use Rattle.mscp_controller.specs.declared.entry.SendFault.{SendFault}
use Rattle.mscp_controller.specs.declared.entry.Sent.{Sent}
use Rattle.mscp_controller.specs.declared.entry.Sent.TheVariants.{Queued, Answered}
use Rattle.mscp_drive.specs.Settings.{Settings}
use Rattle.mscp_controller.specs.Arrival.{refusal, is_queued}
use Rattle.mscp_controller.specs.History.{Trace}
use Rattle.mscp_controller.specs.Commands.{reference}
use Rattle.mscp_controller.specs.Ends.{aborted}
use Rattle.mscp_controller.specs.Account.{balance, outstanding}

-- the reference number of the waiting command that a message aborts, if it aborts one (manual)
abbrev pub aborted_reference : Settings → Connection → Trace → Command → Option ℕ
aborted_reference c via t command = option_map (reference t) (slice_get (aborted c via t command) 0)

-- what a command becomes that isn't refused: queued, or answered at once (manual)
abbrev pub taken_in : Settings → Connection → Trace → Command → Sent
taken_in c via t command =
    if is_queued c command then Queued command.reference
    else Answered command.reference (aborted_reference c via t command)

-- what is answered to a command: this fault, if there is one (manual)
abbrev pub taken_unless : Settings → Connection → Trace → Command → Option SendFault → Result Sent SendFault
taken_unless c via t command (Some fault) = Err fault
taken_unless c via t command None = Ok (taken_in c via t command)

-- what is answered to a message of a connection after t (manual)
unfoldable pub arrival : Settings → Connection → Trace → List ℕ → Result Sent SendFault
arrival c via t b = taken_unless c via t (command_of b) (refusal (balance c via t) (outstanding c via t) b)
