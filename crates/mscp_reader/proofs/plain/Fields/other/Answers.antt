use Rattle.mscp_reader.proofs.PlainLines.{other_asks}
use Rattle.mscp_reader.proofs.plain.Fields.other.Goals as goal

pub returns : goal.returns
returns c = rw c.new.ensures (other_asks c.args.order _ _ _ _ _ c.in_ok-reference.ensures c.in_ok-unit.ensures)
