use Rattle.mscp_reader.proofs.Common.{arith}
use Rattle.mscp_reader.proofs.PlainLines.{plain_next}
use Rattle.mscp_reader.proofs.lines.Lines.plain_request.Goals as goal

pub returns-clause-asks : goal.returns-clause-asks
returns-clause-asks c = (plain_next c.args.self.now.number c.args.count _ _ _ c.in-Some.ensures.plain (omega arith)
    (omega arith) (omega (arith, c.in-Some.ensures.few))).0

pub returns-clause-rest : goal.returns-clause-rest
returns-clause-rest c = (plain_next c.args.self.now.number c.args.count _ _ _ c.in-Some.ensures.plain (omega arith)
    (omega arith) (omega (arith, c.in-Some.ensures.few))).1
