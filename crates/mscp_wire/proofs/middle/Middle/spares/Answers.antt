use Rattle.std.proofs.Common.{arith}
use Rattle.mscp_wire.proofs.Middles.{spares_by}
use Rattle.mscp_wire.proofs.middle.Middle.spares.Goals as goal

pub returns-in-End : goal.returns-in-End
returns-in-End g c = λ h strangers s.
    spares_by h strangers c.args.moment.now c.args.rule c.in-End.connection c.in-End.message c.as_slice.result.now
    c.of.result c.spares_end.result c.in-End.is (omega (arith, c.if-len-ge12.true, c.len.ensures.value))
    c.as_slice.ensures.value c.of.ensures (c.spares_end.ensures h strangers s)
