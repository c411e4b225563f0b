use Rattle.mscp_c.proofs.Common.{rules, PutsIn, put_code}
use Rattle.mscp_c.proofs.PortLent.{answer_told}
use Rattle.mscp_c.specs.PortGiven.{medium_given}
use Rattle.mscp_c.proofs.port_watching.mscp_port_volume_came.Goals as goal

pub returns-clause-call : goal.returns-clause-call
returns-clause-call c made =
    answer_told c.is_made.new.handle c.args.handle.now c.lend.result.now c.volume_came.new.self c.lend.ensures.value
    c.is_made.ensures.same put_code (PutsIn (medium_given c.args.medium.now) c.args.unit) c.volume_came.result _
    (search rules) (search rules)
