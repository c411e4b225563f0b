use Rattle.mscp_wire.proofs.Common.{IsNext, IsSome, ap, cell, drop, is_sought, list_any, place, sents, subst, sym, ◌+◌, ◌∙◌}
use Rattle.mscp_wire.proofs.Placed.{some_behind}
use Rattle.mscp_wire.proofs.commands.Commands.has_behind.Goals as goal

pub returns : goal.returns
returns g c =
    let p = is_sought c.args.sought.now in
    let xs = c.self.inside.cells in
    let at = c.args.at in
    c.is_some.ensures
    ∙ (some_behind p xs at c.next.result (subst (λ l. IsSome (cell l at)) (sym c.self.view_is) c.requires)
    (subst (λ n. IsNext p xs (at + 1) n c.next.result) c.len-len.ensures.count c.next.ensures)
    ∙ ap (λ l. list_any p (drop (place l at + 1) (sents l))) c.self.view_is)
