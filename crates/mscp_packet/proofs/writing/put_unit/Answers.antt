use Rattle.mscp_packet.proofs.Common.{append_assoc}
use Rattle.mscp_packet.proofs.writing.put_unit.Goals as goal

pub returns-clause-items : goal.returns-clause-items
returns-clause-items c =
    rw (
      c.put-2.ensures.items,
      c.put_four.ensures.items,
      c.put_eight.ensures.items,
      c.put.ensures.items,
    ) (simp append_assoc)
