use Rattle.std.proofs.Common.{refl}
use Rattle.mscp_wire.proofs.Marking.{kept_marked}
use Rattle.mscp_wire.proofs.tallies.Tallies.mark.Goals as goal

pub returns : goal.returns
returns g c = λ xs i l is k.
    kept_marked xs i c.args.command.now _ _ c.by_status.result c.by_next.result l is c.by_status.ensures
    c.by_next.ensures c.subtract.ensures c.subtract-2.ensures refl refl refl refl refl refl k
