use Rattle.mscp_wire.proofs.Common.{arith, sents}
use Rattle.mscp_wire.proofs.Going.{counts_long}
use Rattle.mscp_wire.proofs.judge.Judge.counts.Goals as goal

pub returns-then-len-ge12 : goal.returns-then-len-ge12
returns-then-len-ge12 g c =
    counts_long (sents c.args.self.now.commands) c.in-Message.connection c.in-Message.message c.as_slice.result.now
    c.in-Message.field-2 _ c.args.moment.now _ (omega (arith, c.if-len-ge12.true)) c.in-Message.is
    c.as_slice.ensures.value c.of.ensures c.has_place.ensures
