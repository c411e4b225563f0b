use Rattle.mscp_reader.proofs.PlainLines.{look_asks, take_asks}
use Rattle.mscp_reader.proofs.plain.Fields.request.Goals as goal

pub returns-in-Take-clause-asks : goal.returns-in-Take-clause-asks
returns-in-Take-clause-asks c = rw c.in-Take.is (take_asks c.args.self.now.rest.now)

pub returns-in-Look-clause-asks : goal.returns-in-Look-clause-asks
returns-in-Look-clause-asks c = rw c.in-Look.is (look_asks c.args.self.now.rest.now)
