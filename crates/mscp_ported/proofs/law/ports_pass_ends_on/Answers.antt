use Rattle.mscp_ported.proofs.Passed.{passes_on}
use Rattle.mscp_ported.proofs.law.ports_pass_ends_on.Goals as goal

pub returns : goal.returns
returns g c = λ s before controller hardware credits start p call calls valid sizes was quiet made asks reads a never
    lives.
    passes_on g.K.Picker.picks s c.args.picker.now c.controllers_keep_the_promise.ensures valid sizes before hardware
    credits controller start was made quiet p call calls a asks reads never lives
