use Rattle.mscp_ported.proofs.Holding.{holds_awaited}
use Rattle.mscp_ported.proofs.law.ports_hold_what_is_awaited.Goals as goal

pub returns : goal.returns
returns g c = λ s before controller hardware credits start p calls valid was quiet made reads a number.
    holds_awaited g.K.Picker.picks s c.args.picker.now c.controllers_keep_the_promise.ensures valid before hardware
    credits controller start was made quiet p calls reads a number
