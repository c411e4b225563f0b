-- The tables, line by line.
use Rattle.mscp_packet.proofs.Common.{◌≡◌, ◌+◌, ◌<◌, ◌≤◌, arith, Foreign, None, Some, foreign_of, foreign_row, opcode_of, row_of, kind_of_code, IsSound, Opcode}
use Rattle.mscp_packet.proofs.Ends.{length_span}
use Rattle.mscp_packet.specs.declared.class.Answerer.TheVariants.{Controller}
use Rattle.mscp_packet.specs.declared.class.Opcode.TheVariants as codes
use Rattle.mscp_packet.specs.declared.command.MoveKind.TheVariants as moves

-- what the tables owe for one opcode
record Line (o : Opcode) : Type 0 where
  byte : opcode_of (row_of o).byte ≡ Some o
  low : (row_of o).byte < 0x80
  code : kind_of_code ((row_of o).byte + 0x80) ≡ Some (row_of o).body
  least : 12 ≤ (row_of o).least_length
  enough : (row_of o).least_length ≤ (row_of o).written_length
  room : (row_of o).written_length ≤ 48
  answers : (row_of o).answerer ≡ Controller

line : (o : Opcode) → Line o
line (codes.Move moves.Access) = search arith
line o = search arith

-- and for one that the controller doesn't answer
other : (o : Foreign) → (opcode_of (foreign_row o).byte ≡ None) × (foreign_of (foreign_row o).byte ≡ Some o)
other o = search arith

pub sound : IsSound
sound = record {
  byte = λ o. (line o).byte;
  low = λ o. (line o).low;
  code = λ o. (line o).code;
  answers = λ o. (line o).answers;
  apart = λ o. (other o).0;
  foreign = λ o. (other o).1;
  least = λ o. (line o).least;
  written = λ o. ((line o).enough, (line o).room);
  end = length_span;
}
