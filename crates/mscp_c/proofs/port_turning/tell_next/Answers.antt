use Rattle.mscp_c.proofs.Common.{rules}
use Rattle.mscp_c.proofs.PortLent.{wanted_told}
use Rattle.mscp_c.proofs.port_turning.tell_next.Goals as goal

pub returns-clause-wanted : goal.returns-clause-wanted
returns-clause-wanted c made =
    wanted_told c.is_made.new.handle c.args.handle.now c.lend-port.result.now c.next-action.new.self
    c.lend-port.ensures.value c.is_made.ensures.same c.args.ask c.next-action.result _ c.args.out.now
    c.tell_action.new.out c.next-action.ensures (search rules)
    c.tell_action.ensures.told
