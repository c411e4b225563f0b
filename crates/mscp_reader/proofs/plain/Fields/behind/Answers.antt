use Rattle.mscp_reader.proofs.Common.{arith}
use Rattle.mscp_reader.proofs.PlainLines.{at_feed, seen}
use Rattle.mscp_reader.proofs.plain.Fields.behind.Goals as goal

pub returns-in-10 : goal.returns-in-10
returns-in-10 c = search (arith, at_feed, seen)
