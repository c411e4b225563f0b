use Rattle.mscp_wire.proofs.Common.{ap, arith, length, sents}
use Rattle.mscp_wire.proofs.Placed.{both_few}
use Rattle.mscp_wire.proofs.commands.Commands.len.Goals as goal

pub returns : goal.returns
returns g c =
    let few = both_few c.self.inside.cells c.self.inside.tallies c.self.invariant in
    omega (
      arith,
      c.min.ensures,
      c.saturating_add.ensures,
      c.len.ensures.count,
      c.len.ensures.bound,
      few.0,
      few.1,
      ap (λ xs. length (sents xs)) c.self.view_is,
    )
