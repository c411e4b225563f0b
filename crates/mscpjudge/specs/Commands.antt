-- What is written of a command.
use Rattle.std.specs.Prelude.{ℕ, if◌then◌else◌, List, [], ◌++◌, codes}
use Rattle.std.specs.Fmt.{decimal}
use Rattle.mscp_packet.specs.Opcodes.{has_row, opcode_name}
use Rattle.mscp_drive.specs.declared.connection.Connection.{Connection}
use Rattle.mscp_drive.specs.declared.connection.Connection.TheVariants.{First, Second}
use Rattle.mscp_wire.specs.declared.sent.Sent.{Sent}

-- whose it is, if that isn't the first connection's host
abbrev pub connection_name : Connection → List ℕ
connection_name First = []
connection_name Second = codes "second "

-- a command of an opcode that has a name, or has none
abbrev pub named_text : Sent → List ℕ
named_text s =
    opcode_name s.opcode ++ (codes " " ++ decimal s.reference) ++ (codes " of unit " ++ decimal s.unit) ++ codes "\n"

abbrev pub unnamed_text : Sent → List ℕ
unnamed_text s =
    (codes "command " ++ decimal s.reference) ++ (codes " of unit " ++ decimal s.unit)
    ++ (codes " (unknown opcode " ++ decimal s.opcode) ++ codes ")\n"

-- what a command is
unfoldable pub command_text : Sent → List ℕ
command_text s = connection_name s.connection ++ (if has_row s.opcode then named_text s else unnamed_text s)
