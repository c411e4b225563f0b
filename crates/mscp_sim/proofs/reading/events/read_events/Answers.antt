use Rattle.mscp_sim.proofs.Common.{arith, length-append, ends, goes_on, goes_wrong}
use Rattle.mscp_sim.proofs.reading.events.read_events.Goals as goal

pub loop-request-preserved : goal.loop-request-preserved
loop-request-preserved g c = search (arith, length-append, goes_on)

pub returns-in-Err-clause-outcome : goal.returns-in-Err-clause-outcome
returns-in-Err-clause-outcome g c = search (arith, goes_wrong)

pub returns-in-Ok-None-clause-outcome : goal.returns-in-Ok-None-clause-outcome
returns-in-Ok-None-clause-outcome g c = search (arith, ends)
