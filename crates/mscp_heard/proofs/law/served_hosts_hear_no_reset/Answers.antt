use Rattle.mscp_heard.specs.Deeds.{calls_in}
use Rattle.mscp_heard.proofs.law.served_hosts_hear_no_reset.Goals as goal

pub returns : goal.returns
returns g c = λ s before controller hardware credits start p deeds old new v b answer valid sizes was quiet made
    asks small numbers a joined blocks answered r.
    c.hosts_hear_no_reset.ensures s before controller hardware credits start p deeds old new v b answer valid sizes was
    quiet made asks small numbers a joined
    (c.ports_serve_who_asks_for_blocks.ensures hardware credits controller start p (calls_in deeds) made blocks a)
    answered r
