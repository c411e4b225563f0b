-- What the tables of opcodes and endcodes owe one another.
use Rattle.std.specs.Prelude.{◌≡◌, ◌+◌, ◌<◌, ◌≤◌, None, Some}
use Rattle.mscp_packet.specs.Opcodes.{foreign_of, foreign_row, opcode_of, row_of}
use Rattle.mscp_packet.specs.declared.class.Answerer.TheVariants.{Controller}
use Rattle.mscp_packet.specs.declared.class.Foreign.{Foreign}
use Rattle.mscp_packet.specs.Ends.{end_length, kind_of_code}
use Rattle.mscp_packet.specs.declared.class.Opcode.{Opcode}
use Rattle.mscp_packet.specs.declared.end.BodyKind.{BodyKind}

pub record IsSound : Type 0 where
  -- the byte of an opcode is the byte of no other
  pub byte : (o : Opcode) → opcode_of (row_of o).byte ≡ Some o
  -- the top bit of an opcode is free, so that it can tell an end
  pub low : (o : Opcode) → (row_of o).byte < 0x80
  -- with that bit set it is an endcode, with the body of the table
  pub code : (o : Opcode) → kind_of_code ((row_of o).byte + 0x80) ≡ Some (row_of o).body
  -- it is the controller that answers it, and no opcode that it doesn't answer has its byte
  pub answers : (o : Opcode) → (row_of o).answerer ≡ Controller
  pub apart : (o : Foreign) → opcode_of (foreign_row o).byte ≡ None
  -- each of those has a byte of its own, too
  pub foreign : (o : Foreign) → foreign_of (foreign_row o).byte ≡ Some o
  -- a command has at least the 12 bytes that all commands have, and may have no more
  pub least : (o : Opcode) → 12 ≤ (row_of o).least_length
  -- a command of an opcode is written with as many bytes as are asked for, or more, and has room in 48 bytes
  pub written : (o : Opcode)
      → ((row_of o).least_length ≤ (row_of o).written_length) × ((row_of o).written_length ≤ 48)
  -- an end has at least the 12 bytes that all ends have, and has room in 48 bytes
  pub end : (kind : BodyKind) → (12 ≤ end_length kind) × (end_length kind ≤ 48)
