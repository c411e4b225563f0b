use Rattle.mscp_ported.proofs.Tallying.{counts}
use Rattle.mscp_ported.proofs.law.ports_count_what_they_moved.Goals as goal

pub returns : goal.returns
returns g c = λ hardware credits controller start p calls outcome done u kind count first kept e made asks a step is
    among asking mine there.
    counts g.K.Picker.picks hardware credits controller start made p calls outcome done u kind count first kept e asks a
    step is among asking mine there
