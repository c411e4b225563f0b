use Rattle.mscp_wire.proofs.Common.{ap, cell, is_sought, stands, sym, true, ◌∙◌, ◌≡◌}
use Rattle.mscp_wire.proofs.Placed.{is_full, stands_at}
use Rattle.mscp_wire.proofs.commands.Commands.guessed.Goals as goal

abbrev stands_there : (g : _) (c : goal.Then-stands g)
    → stands (is_sought c.args.sought.now) (cell c.args.self.now c.in_ok-at.field-0) ≡ true
stands_there g c =
    let at = c.in_ok-at.field-0 in
    let p = is_sought c.args.sought.now in
    sym (ap (λ xs. stands p (cell xs at)) (c.as_slice-cells.ensures ∙ c.self.view_is))
    ∙ (sym c.stands.ensures ∙ c.if-stands.true)

pub returns-then-stands-clause-there : goal.returns-then-stands-clause-there
returns-then-stands-clause-there g c =
    is_full (is_sought c.args.sought.now) (cell c.args.self.now c.in_ok-at.field-0) (stands_there g c)

pub returns-then-stands-clause-sought : goal.returns-then-stands-clause-sought
returns-then-stands-clause-sought g c =
    stands_at (is_sought c.args.sought.now) c.args.self.now c.in_ok-at.field-0 (stands_there g c)
