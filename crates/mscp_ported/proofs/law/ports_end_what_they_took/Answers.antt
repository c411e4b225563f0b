use Rattle.mscp_ported.proofs.Ended.{deals}
use Rattle.mscp_ported.proofs.law.ports_end_what_they_took.Goals as goal

pub returns : goal.returns
returns g c = λ s before controller hardware credits start p call calls valid was quiet made reads a never lives.
    deals g.K.Picker.picks s c.args.picker.now c.controllers_keep_the_promise.ensures valid before hardware credits
    controller start was made quiet p call calls reads a never lives
