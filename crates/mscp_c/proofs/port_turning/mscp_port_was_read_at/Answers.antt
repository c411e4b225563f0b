use Rattle.mscp_c.proofs.Common.{rules, Hears, told_code}
use Rattle.mscp_c.proofs.PortLent.{answer_told}
use Rattle.mscp_c.proofs.port_turning.mscp_port_was_read_at.Goals as goal

pub returns-clause-call : goal.returns-clause-call
returns-clause-call c made =
    answer_told c.is_made.new.handle c.args.handle.now c.lend.result.now c.was_read.new.self c.lend.ensures.value
    c.is_made.ensures.same told_code (Hears c.args.bytes.now) c.was_read.result _ c.was_read.ensures
    (search rules)
