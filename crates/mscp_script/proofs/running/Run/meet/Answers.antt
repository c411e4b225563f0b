use Rattle.mscp_script.proofs.Common.{arith}
use Rattle.mscp_script.proofs.Growing.{meets_ok}
use Rattle.mscp_script.proofs.running.Run.meet.Goals as goal

pub returns-in-Send-clause-met : goal.returns-in-Send-clause-met
returns-in-Send-clause-met g c = rw c.in-Send.is (meets_ok c.send_command.result _ _ _ c.send_command.ensures.ran)

pub returns-in-Packet-clause-met : goal.returns-in-Packet-clause-met
returns-in-Packet-clause-met g c = search (arith, meets_ok)

pub returns-in-Take-clause-met : goal.returns-in-Take-clause-met
returns-in-Take-clause-met g c = rw c.in-Take.is (meets_ok c.take.result _ _ _ c.take.ensures.ran)

pub returns-in-Look-clause-met : goal.returns-in-Look-clause-met
returns-in-Look-clause-met g c = rw c.in-Look.is (meets_ok c.look.result _ _ _ c.look.ensures.ran)
