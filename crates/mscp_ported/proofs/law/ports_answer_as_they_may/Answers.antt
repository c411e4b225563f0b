use Rattle.mscp_ported.proofs.Answering.{answers}
use Rattle.mscp_ported.proofs.law.ports_answer_as_they_may.Goals as goal

pub returns : goal.returns
returns g c = λ hardware credits controller start p calls bytes done o made asks a none some.
    answers g.K.Picker.picks hardware credits controller start made p calls bytes done o asks a none some
