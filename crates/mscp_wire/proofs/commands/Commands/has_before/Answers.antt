use Rattle.mscp_wire.proofs.Common.{ap, is_some, is_sought, place, sents, take, ◌∙◌}
use Rattle.mscp_wire.proofs.Placed.{some_found}
use Rattle.mscp_wire.proofs.commands.Commands.has_before.Goals as goal

pub returns : goal.returns
returns g c =
    c.is_some.ensures
    ∙ (ap is_some c.first_before.ensures
    ∙ some_found (is_sought c.args.sought.now) (take (place c.args.self.now c.args.at) (sents c.args.self.now)))
