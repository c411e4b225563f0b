use Rattle.mscp_reader.proofs.Common.{arith}
use Rattle.mscp_reader.proofs.lines.Lines.worded_request.Goals as goal

pub returns-in_default-clause-rest : goal.returns-in_default-clause-rest
returns-in_default-clause-rest c = search arith
