use Rattle.mscp_heard.proofs.Polling.{hears_neither}
use Rattle.mscp_heard.proofs.law.hosts_hear_no_reset.Goals as goal

pub returns : goal.returns
returns g c = λ s before controller hardware credits start p deeds old new v b answer valid sizes was quiet made
    asks small numbers a joined serves answered r.
    hears_neither g.K.Picker.picks s c.args.picker.now c.ports_end_what_they_took.ensures
    c.ports_end_by_opcode.ensures sizes c.ports_hear_in_order.ensures c.ports_tell_in_order.ensures
    c.ports_open_what_they_accept.ensures c.ports_answer_as_they_may.ensures c.port_hosts_keep_their_history.ensures
    c.ports_hold_what_is_awaited.ensures c.ports_pass_ends_on.ensures c.ports_lower_figures.ensures
    before controller hardware credits start valid was quiet made p deeds old new v b answer asks small numbers a
    joined serves answered r
