use Rattle.mscp_reader.proofs.PlainLines.{transfer_asks}
use Rattle.mscp_reader.proofs.plain.Fields.transfer.Goals as goal

pub returns : goal.returns
returns c = rw c.new.ensures (transfer_asks c.args.kind _ _ _ _ _ _ _ _ _ c.in_ok-reference.ensures
    c.in_ok-unit.ensures c.in_ok-count.ensures c.in_ok-block.ensures)
