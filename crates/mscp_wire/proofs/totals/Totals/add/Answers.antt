use Rattle.mscp_wire.proofs.Common.{ap, counted_at, ◌∙◌}
use Rattle.mscp_wire.proofs.Counting.{totals_more}
use Rattle.mscp_wire.proofs.totals.Totals.add.Goals as goal

pub returns-clause-totals : goal.returns-clause-totals
returns-clause-totals c = λ h e k f.
    totals_more h c.args.moment.now c.args.self.now _ c.args.queue e k
    (c.with-self.ensures.counts h (ap (λ t. t.counts) e))
    (c.count_at.ensures.counted ∙ ap (counted_at c.args.self.now.commands) c.opcode_sent.ensures.value)
    (c.count_at-2.ensures.counted ∙ ap (counted_at c.args.self.now.statuses) c.code_told.ensures.value)
    c.max-self.ensures (c.with-self-2.ensures h c.args.moment.now (ap (λ t. t.falls) e) f)
