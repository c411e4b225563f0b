use Rattle.mscp_wire.proofs.Common.{ap, arith, get_or, kept_at, ◌∙◌}
use Rattle.mscp_wire.proofs.Tables.{padded}
use Rattle.mscp_wire.proofs.table.Table.begin.Goals as goal

pub returns-in_ok-resize-clause-same : goal.returns-in_ok-resize-clause-same
returns-in_ok-resize-clause-same g c = λ number.
    ap (λ ps. kept_at c.args.self.now number (get_or ps number 0)) c.in_ok-resize.ensures.items
    ∙ ap (λ p. kept_at c.args.self.now number p)
    (padded 0 c.args.self.now.places.items 65536 _ number (omega (arith, c.if-len-lt-NUMBERS.true, c.len.ensures)))
