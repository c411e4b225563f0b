use Rattle.mscp_wire.proofs.Middles.{strange_shows}
use Rattle.mscp_wire.proofs.middle.Middle.hear_stranger.Goals as goal

pub returns-in_ok-put-in-End : goal.returns-in_ok-put-in-End
returns-in_ok-put-in-End g c = λ h strangers s spared.
    let put = c.in_ok-put-in-End.ensures in
    let met = c.meet.ensures in
    strange_shows h strangers c.in-End.connection c.in-End.message c.as_slice.result.now c.four_at.result
    c.args.self.now c.put.new.self c.meet.new.self s c.as_slice.ensures.value c.four_at.ensures put.units put.first
    put.second met.names met.units met.first met.second c.args.moment.now c.in-End.is put.names
