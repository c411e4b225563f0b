use Rattle.mscp_heard.proofs.Refusing.{refuses_nothing}
use Rattle.mscp_heard.proofs.law.hosts_refuse_nothing.Goals as goal

pub returns : goal.returns
returns g c = λ s before controller hardware credits start p deeds old new v b answer fault valid sizes was quiet made
    asks small numbers a joined answered r.
    refuses_nothing g.K.Picker.picks s c.args.picker.now c.ports_end_what_they_took.ensures
    c.ports_end_by_opcode.ensures sizes c.ports_hear_in_order.ensures c.ports_tell_in_order.ensures
    c.ports_open_what_they_accept.ensures c.ports_answer_as_they_may.ensures c.port_hosts_keep_their_history.ensures
    before controller hardware credits start valid was quiet made p deeds old new v b answer fault asks small numbers a
    joined answered r
