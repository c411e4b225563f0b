-- How what a port wants is told.
use Rattle.std.specs.Prelude.{ℕ, ℤ, List, ◌++◌, length, drop, unwrap_or}
use Rattle.mscp_packet.specs.Opcodes.{move_byte}
use Rattle.mscp_packet.specs.declared.command.MoveKind.{MoveKind}
use Rattle.mscp_port.specs.declared.action.Action.{Action}
use Rattle.mscp_port.specs.declared.action.Action.TheVariants as actions
use Rattle.mscp_port.specs.declared.port.Port.{Port}
use Rattle.mscp_port.specs.Serials.{serial_begun}
use Rattle.mscp_c.specs.declared.outs.ActionOut.{ActionOut}
use Rattle.mscp_c.specs.declared.status.TheConstants as status

-- the status: whether there is something to do
abbrev pub next_code : Action → ℤ
next_code actions.Rest = status.NOTHING
next_code action = status.DONE

-- what is told of an action of which only the kind is told. The bytes are what they were
abbrev pub of_kind : ℕ → ActionOut → ActionOut
of_kind kind out = record {
  serial = 0;
  address = 0;
  count = 0;
  block = 0;
  unit = 0;
  vector = 0;
  kind = kind;
  opcode = 0;
  bytes = out.bytes;
}

-- of one that is about so many bytes of host memory from an address on
abbrev pub of_memory : ℕ → ℕ → ℕ → ActionOut → ActionOut
of_memory kind address count out = record (of_kind kind out) { address = address; count = count }

-- of a transfer, with its serial and its opcode
abbrev pub of_transfer : ℕ → MoveKind → ℕ → ℕ → ℕ → ℕ → ActionOut → ActionOut
of_transfer serial kind unit block address count out = record (of_memory 5 address count out) {
  serial = serial;
  block = block;
  unit = unit;
  opcode = move_byte kind;
}

-- these bytes are told: from the first on, and those behind them are what they were
abbrev pub with_bytes : List ℕ → ActionOut → ActionOut
with_bytes b out = record out { bytes = b ++ drop (length b) out.bytes }

-- the serial of the step that a port has begun, 0 where none is
abbrev pub serial_told : {K : Type 0} → Port K → ℕ
serial_told p = unwrap_or (serial_begun p) 0

-- what is told of an action, of the bytes that it writes if it does, and of its serial if it is a transfer. Its kind is
-- the number that the header has under its name. Where there is nothing to do nothing is
abbrev pub action_told : Action → List ℕ → ℕ → ActionOut → ActionOut
action_told actions.Rest bytes serial out = out
action_told actions.Pause bytes serial out = of_kind 1 out
action_told (actions.Read address count) bytes serial out = of_memory 2 address count out
action_told (actions.Write address count) bytes serial out = with_bytes bytes (of_memory 3 address count out)
action_told (actions.Interrupt vector) bytes serial out = record (of_kind 4 out) { vector = vector }
action_told (actions.Transfer kind unit block address count) bytes serial out =
    of_transfer serial kind unit block address count out
