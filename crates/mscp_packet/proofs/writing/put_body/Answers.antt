use Rattle.mscp_packet.proofs.Common.{append_assoc}
use Rattle.mscp_packet.proofs.writing.put_body.Goals as goal

pub returns-in-Controller-clause-items : goal.returns-in-Controller-clause-items
returns-in-Controller-clause-items c =
    rw (
      c.put_eight.ensures.items,
      c.put-in-Controller-2.ensures.items,
      c.put_two-in-Controller.ensures.items,
      c.put-in-Controller.ensures.items,
      c.in-Controller.is,
    ) (simp append_assoc)
