use Rattle.mscp_c.proofs.Common.{rules, not, ◌==◌, Changes, volume_code}
use Rattle.mscp_c.proofs.PortLent.{answer_told}
use Rattle.mscp_port.specs.Volumes.{volume_protected}
use Rattle.mscp_c.proofs.port_watching.mscp_port_protect.Goals as goal

pub returns-clause-call : goal.returns-clause-call
returns-clause-call c made =
    answer_told c.is_made.new.handle c.args.handle.now c.lend.result.now c.protect.new.self c.lend.ensures.value
    c.is_made.ensures.same volume_code (Changes (volume_protected (not (c.args.is_protected == 0))) c.args.unit)
    c.protect.result _ c.protect.ensures (search rules)
