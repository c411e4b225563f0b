use Rattle.mscp_reader.proofs.PlainLines.{abort_asks}
use Rattle.mscp_reader.proofs.plain.Fields.abort.Goals as goal

pub returns : goal.returns
returns c = rw c.new.ensures (abort_asks _ _ _ _ _ c.in_ok-reference.ensures c.in_ok-other.ensures)
