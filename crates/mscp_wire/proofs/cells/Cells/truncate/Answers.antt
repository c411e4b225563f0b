use Rattle.mscp_wire.proofs.Common.{AreTagged, subst, sym}
use Rattle.mscp_wire.proofs.Tagged.{shorter}
use Rattle.mscp_wire.proofs.cells.Cells.truncate.Goals as goal

pub invariant_of-self : goal.invariant_of-self
invariant_of-self g c =
    subst (λ cells. AreTagged cells c.self.inside.tags.items) (sym c.truncate.ensures.items)
    (shorter c.self.inside.cells.items c.self.inside.tags.items c.args.len c.self.invariant)
