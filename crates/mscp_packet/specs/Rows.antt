-- A row of the table in code, and one of its definition.
use Rattle.std.specs.Prelude.{◌≡◌}
use Rattle.mscp_packet.specs.declared.class.Row.{Row}
use Rattle.mscp_packet.specs.Opcodes.{OpcodeRow}

-- they say the same
pub record IsRow (r : Row) (o : OpcodeRow) : Type 0 where
  pub byte : r.byte ≡ o.byte
  pub name : r.name.now ≡ o.name
  pub class : r.class ≡ o.scheduled
  pub least : r.least ≡ o.least_length
  pub body : r.body ≡ o.body
  pub statuses : r.statuses ≡ o.statuses
  pub modifiers : r.modifiers ≡ o.modifiers
  pub answerer : r.answerer ≡ o.answerer
