use Rattle.mscp_wire.proofs.Common.{ap, asks, refl, sym, ◌∙◌}
use Rattle.mscp_wire.proofs.Marking.{asked_less, asked_more, kept_left}
use Rattle.mscp_wire.proofs.tallies.Tallies.leave.Goals as goal

pub returns-then-not-asks : goal.returns-then-not-asks
returns-then-not-asks g c = λ xs i l is k.
    kept_left xs i c.args.poll.now _ _ l is
    (asked_less _ _ xs i c.args.poll.now c.by_asked.result l is c.by_asked.ensures
    (ap asks (sym c.left.ensures) ∙ (sym c.asks.ensures ∙ c.if-not-asks.true)) k.asked c.subtract.ensures)
    refl refl refl refl refl refl refl k

pub returns-else-not-asks : goal.returns-else-not-asks
returns-else-not-asks g c = λ xs i l is k.
    kept_left xs i c.args.poll.now _ _ l is
    (asked_more _ xs i c.args.poll.now l is
    (ap asks (sym c.left.ensures) ∙ (sym c.asks.ensures ∙ c.if-not-asks.false)) k.asked)
    refl refl refl refl refl refl refl k
