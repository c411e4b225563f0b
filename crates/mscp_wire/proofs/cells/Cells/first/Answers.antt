use Rattle.mscp_wire.specs.Sought.{is_sought}
use Rattle.mscp_wire.proofs.Placed.{first_of}
use Rattle.mscp_wire.proofs.cells.Cells.first.Goals as goal

pub returns-clause-place : goal.returns-clause-place
returns-clause-place g c =
    (first_of (is_sought c.args.sought.now) c.args.self.now c.args.len c.next.result c.requires c.next.ensures).0

pub returns-clause-there : goal.returns-clause-there
returns-clause-there g c =
    (first_of (is_sought c.args.sought.now) c.args.self.now c.args.len c.next.result c.requires c.next.ensures).1
