use Rattle.mscp_c.proofs.Common.{rules, false, Changes, volume_code}
use Rattle.mscp_c.proofs.PortLent.{answer_told}
use Rattle.mscp_port.specs.Volumes.{volume_changed}
use Rattle.mscp_c.proofs.port_watching.mscp_port_volume_went.Goals as goal

pub returns-clause-call : goal.returns-clause-call
returns-clause-call c made =
    answer_told c.is_made.new.handle c.args.handle.now c.lend.result.now c.volume_went.new.self c.lend.ensures.value
    c.is_made.ensures.same volume_code (Changes (volume_changed false) c.args.unit) c.volume_went.result _
    c.volume_went.ensures (search rules)
