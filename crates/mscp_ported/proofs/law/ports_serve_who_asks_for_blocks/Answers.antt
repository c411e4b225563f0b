use Rattle.mscp_ported.proofs.Serving.{serves_between}
use Rattle.mscp_ported.proofs.law.ports_serve_who_asks_for_blocks.Goals as goal

pub returns : goal.returns
returns g c = λ hardware credits controller start p calls made asks a.
    serves_between g.K.Picker.picks start hardware credits controller made p calls asks a
