use Rattle.std.proofs.Common.{length, set, ap, arith}
use Rattle.mscp_wire.proofs.Tagged.{put_in}
use Rattle.mscp_wire.proofs.cells.Cells.put.Goals as goal

pub invariant_of-self : goal.invariant_of-self
invariant_of-self g c =
    put_in c.self.inside.cells.items c.self.inside.tags.items c.args.at c.args.command c.tag_if.result
    (omega (arith, c.requires, ap length c.self.view_is)) c.self.invariant c.tag_if.ensures

pub returns : goal.returns
returns g c = ap (λ xs. set xs c.args.at c.args.command) c.self.view_is
