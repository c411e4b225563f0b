use Rattle.mscp_port.proofs.Common.{rules}
use Rattle.mscp_port.proofs.port.Port.finish.Goals as goal

pub returns-in-Some-clause-takes : goal.returns-in-Some-clause-takes
returns-in-Some-clause-takes g c = search rules

pub returns-in-Some-clause-goes : goal.returns-in-Some-clause-goes
returns-in-Some-clause-goes g c = (c.args.verdict, returns-in-Some-clause-takes g c)
