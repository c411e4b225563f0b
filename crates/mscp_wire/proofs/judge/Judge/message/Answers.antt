use Rattle.mscp_wire.proofs.Common.{arith, refl, sents}
use Rattle.mscp_wire.proofs.Hearing.{long_message}
use Rattle.mscp_wire.proofs.judge.Judge.message.Goals as goal

pub returns-clause-rule : goal.returns-clause-rule
returns-clause-rule g c =
    long_message c.args.connection c.args.bytes.now c.args.self.now.credits (sents c.args.self.now.commands) _ _ _
    (omega (arith, c.if-bytes-lt12.false)) c.of-sent.ensures refl c.broken_message-rule.ensures
