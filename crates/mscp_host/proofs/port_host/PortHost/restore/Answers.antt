use Rattle.mscp_host.proofs.Common.{None, ap, arith, port_head_fault, port_saved_bytes, rules, ◌∙◌, ◌≡◌}
use Rattle.mscp_host.proofs.port_host.PortHost.restore.Goals as goal

pub returns-else-eq-clause-value : goal.returns-else-eq-clause-value
returns-else-eq-clause-value c =
    let b = c.args.b.now in
    let head : port_head_fault b ≡ None = search rules in
    let said = ap port_saved_bytes c.port_host_in-restored.ensures in
    let same = c.as_slice.ensures.value ∙ (c.save.ensures.bytes ∙ said) in
    search arith
