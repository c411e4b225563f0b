use Rattle.mscp_ported.proofs.Answering.{answers_polls}
use Rattle.mscp_ported.proofs.law.ports_answer_polls.Goals as goal

pub returns : goal.returns
returns g c = λ hardware credits controller start p calls bytes done slot header made asks a opened poll long.
    answers_polls g.K.Picker.picks hardware credits controller start made p calls bytes done slot header asks a opened
    poll long
