use Rattle.mscp_ported.proofs.Falling.{lowers}
use Rattle.mscp_ported.proofs.law.ports_lower_figures.Goals as goal

pub returns : goal.returns
returns g c = λ s before controller hardware credits start p call calls valid was made asks a number.
    lowers g.K.Picker.picks s c.args.picker.now c.controllers_keep_the_promise.ensures valid before hardware credits
    controller start was made p call calls asks a number
