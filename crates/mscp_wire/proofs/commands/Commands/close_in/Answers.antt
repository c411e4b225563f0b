use Rattle.mscp_wire.proofs.Common.{ap, cell, is_on, is_some, others_of, place, sents, sym, ◌∙◌}
use Rattle.mscp_wire.proofs.Closing.{others_removed}
use Rattle.mscp_wire.proofs.Placed.{command_of, place_less}
use Rattle.mscp_wire.proofs.commands.Commands.close_in.Goals as goal

pub returns-then-is_on-clause-others : goal.returns-then-is_on-clause-others
returns-then-is_on-clause-others g c =
    let xs = c.args.self.now in
    let here = ap (λ ys. cell ys c.args.at) (sym c.self.view_is ∙ sym c.as_slice.ensures) ∙ c.in-Some.is in
    ap (others_of c.args.connection) c.remove.ensures.others
    ∙ others_removed c.args.connection (sents xs) (place xs c.args.at)
    (place_less xs c.args.at (ap is_some here))
    (ap (is_on c.args.connection) (sym (command_of xs c.args.at c.in-Some.command here)) ∙ sym c.is_on.ensures
    ∙ c.if-is_on.true)
