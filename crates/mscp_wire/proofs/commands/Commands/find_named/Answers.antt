use Rattle.mscp_wire.proofs.Common.{ap, command_at_place, is_named, sents, ◌∙◌}
use Rattle.mscp_wire.proofs.Names.{found_at}
use Rattle.mscp_wire.proofs.commands.Commands.find_named.Goals as goal

pub returns : goal.returns
returns g c =
    c.command_if.ensures
    ∙ (ap (command_at_place (sents c.args.self.now)) c.cell_named-at.ensures.place
    ∙ found_at (is_named c.args.connection c.args.reference) (sents c.args.self.now))
