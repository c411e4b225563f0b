use Rattle.mscp_ported.proofs.Answering.{hands_over}
use Rattle.mscp_ported.proofs.law.ports_hand_over_the_rest.Goals as goal

pub returns : goal.returns
returns g c = λ hardware credits controller start p calls bytes done slot header made asks a opened.
    hands_over g.K.Picker.picks hardware credits controller start made p calls bytes done slot header asks a opened
