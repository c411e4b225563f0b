use Rattle.mscp_reader.proofs.Common.{arith}
use Rattle.mscp_reader.proofs.PlainLines.{steps_asks}
use Rattle.mscp_reader.proofs.plain.Fields.steps.Goals as goal

pub returns-clause-asks : goal.returns-clause-asks
returns-clause-asks c = search (arith, steps_asks)
