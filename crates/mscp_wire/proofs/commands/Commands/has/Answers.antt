use Rattle.mscp_wire.proofs.Common.{ap, is_some, is_sought, sents, ◌∙◌}
use Rattle.mscp_wire.proofs.Placed.{some_place_if}
use Rattle.mscp_wire.proofs.Names.{some_place}
use Rattle.mscp_wire.proofs.commands.Commands.has.Goals as goal

pub returns : goal.returns
returns g c =
    c.is_some.ensures
    ∙ (some_place_if c.args.self.now c.first.result
    ∙ (ap is_some c.first.ensures.place ∙ some_place (is_sought c.args.sought.now) (sents c.args.self.now)))
