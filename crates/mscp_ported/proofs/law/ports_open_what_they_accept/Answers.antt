use Rattle.mscp_ported.proofs.Following.{opens}
use Rattle.mscp_ported.proofs.law.ports_open_what_they_accept.Goals as goal

pub returns : goal.returns
returns g c = λ hardware credits controller start p calls bytes done text more made asks a e.
    opens g.K.Picker.picks hardware credits controller start p calls bytes done text more made asks a e
