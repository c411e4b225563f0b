use Rattle.mscp_wire.proofs.Common.{IfSome, IsSome, arith, cell, is_sought, place_if, position, sents, subst, take_all, ◌∙◌, ◌≡◌}
use Rattle.mscp_wire.proofs.commands.Commands.first.Goals as goal

pub returns-clause-place : goal.returns-clause-place
returns-clause-place g c =
    let xs = c.self.inside.cells in
    subst (λ l. place_if l c.first.result ≡ position (is_sought c.args.sought.now) (sents l))
    (take_all c.len.result xs (omega (arith, c.len.ensures.count)) ∙ c.self.view_is) c.first.ensures.place

pub returns-clause-there : goal.returns-clause-there
returns-clause-there g c =
    let xs = c.self.inside.cells in
    subst (λ l. IfSome c.first.result (λ i. IsSome (cell l i)))
    (take_all c.len.result xs (omega (arith, c.len.ensures.count)) ∙ c.self.view_is) c.first.ensures.there
