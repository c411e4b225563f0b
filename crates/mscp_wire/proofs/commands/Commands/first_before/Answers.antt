use Rattle.mscp_wire.proofs.Common.{ap, command_at_place, find, is_sought, place, place_if, sents, take, ◌∙◌}
use Rattle.mscp_wire.proofs.Names.{found_at}
use Rattle.mscp_wire.proofs.Placed.{sents_take}
use Rattle.mscp_wire.proofs.commands.Commands.first_before.Goals as goal

pub returns : goal.returns
returns g c =
    let xs = c.self.inside.cells in
    let p = is_sought c.args.sought.now in
    let at = c.args.at in
    c.command_if.ensures
    ∙ (ap (λ l. command_at_place (sents (take at l)) (place_if (take at l) c.first.result)) c.as_slice.ensures
    ∙ (ap (command_at_place (sents (take at xs))) c.first.ensures.place
    ∙ (found_at p (sents (take at xs))
    ∙ (ap (find p) (sents_take at xs)
    ∙ ap (λ l. find p (take (place l at) (sents l))) c.self.view_is))))
