use Rattle.mscp_reader.proofs.Common.{arith}
use Rattle.mscp_reader.proofs.PlainLines.{cut_number}
use Rattle.mscp_reader.proofs.plain.Fields.wide.Goals as goal

pub returns : goal.returns
returns c = search (arith, cut_number)
