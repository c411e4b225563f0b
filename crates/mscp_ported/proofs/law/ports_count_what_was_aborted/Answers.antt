use Rattle.mscp_ported.proofs.Aborted.{counts_aborted}
use Rattle.mscp_ported.proofs.law.ports_count_what_was_aborted.Goals as goal

pub returns : goal.returns
returns g c = λ hardware credits controller start p calls bytes done r kind count first kept e made asks a waits is
    among asking mine there.
    counts_aborted g.K.Picker.picks hardware credits controller start made p calls bytes done r kind count first kept e
    asks a waits is among asking mine there
