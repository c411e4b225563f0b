use Rattle.mscp_ported.proofs.Serving.{serves_behind}
use Rattle.mscp_ported.proofs.law.ports_serve_who_asks_behind_polls.Goals as goal

pub returns : goal.returns
returns g c = λ hardware credits controller start p calls made a asks.
    serves_behind g.K.Picker.picks start hardware credits controller made p calls a asks
