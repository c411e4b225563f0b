use Rattle.mscp_wire.proofs.Common.{IfSome, IsSome, ap, cell, command_at_place, place_if, sents, subst, sym, ◌∙◌}
use Rattle.mscp_wire.proofs.Placed.{cell_is}
use Rattle.mscp_wire.proofs.held.command_if.Goals as goal

pub returns-in-Some : goal.returns-in-Some
returns-in-Some c =
    let xs = c.args.cells.now in
    c.command_in.ensures
    ∙ (cell_is xs c.in-Some.at (subst (λ o. IfSome o (λ i. IsSome (cell xs i))) c.in-Some.is c.requires)
    ∙ ap (λ o. command_at_place (sents xs) (place_if xs o)) (sym c.in-Some.is))
