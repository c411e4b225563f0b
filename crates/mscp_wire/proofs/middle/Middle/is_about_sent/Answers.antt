use Rattle.std.proofs.Common.{arith}
use Rattle.mscp_wire.proofs.Middles.{about_by}
use Rattle.mscp_wire.proofs.middle.Middle.is_about_sent.Goals as goal

pub returns-in-End : goal.returns-in-End
returns-in-End g c = λ h strangers s.
    about_by h c.args.moment.now c.in-End.connection c.in-End.message c.as_slice.result.now c.of-answer.result
    c.has_sent.result c.in-End.is (omega (arith, c.if-len-ge12.true, c.len.ensures.value)) c.as_slice.ensures.value
    c.of-answer.ensures (c.has_sent.ensures h strangers s)
