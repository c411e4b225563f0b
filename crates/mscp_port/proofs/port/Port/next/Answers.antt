use Rattle.mscp_port.proofs.Common.{subst, Port, Wants, asks_blocks}
use Rattle.mscp_port.proofs.port.Port.next.Goals as goal

pub returns : goal.returns
returns g c =
    let new = c.want.new.self in
    subst
    (λ (p : Port g.row.K.Denot).
    Wants (g.K.Picker.picks p.controller.picker) (asks_blocks c.args.ask) p c.want.result new)
    c.put_aside.ensures c.want.ensures
