use Rattle.mscp_wire.proofs.Common.{ap, cell, sym, ◌∙◌}
use Rattle.mscp_wire.proofs.Placed.{command_of}
use Rattle.mscp_wire.proofs.commands.Commands.at.Goals as goal

pub returns : goal.returns
returns g c =
    command_of c.args.self.now c.args.at c.unwrap.result
    (ap (λ xs. cell xs c.args.at) (sym (c.as_slice.ensures ∙ c.self.view_is))
    ∙ (sym c.command_in.ensures ∙ c.unwrap.ensures))
