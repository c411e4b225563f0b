use Rattle.mscp_ported.proofs.Decided.{says_what_was_decided}
use Rattle.mscp_ported.proofs.law.ports_say_what_was_decided.Goals as goal

pub returns : goal.returns
returns g c = λ s before controller hardware credits start p calls valid was quiet made a.
    says_what_was_decided g.K.Picker.picks s c.args.picker.now c.controllers_keep_the_promise.ensures valid
    before hardware
    credits controller start was made quiet p calls a
