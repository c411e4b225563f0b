use Rattle.mscp_ported.proofs.Telling.{keeps_telling}
use Rattle.mscp_ported.proofs.law.ports_keep_telling.Goals as goal

pub returns : goal.returns
returns g c = λ hardware credits controller start p q before calls made asks b has up a given busy.
    keeps_telling g.K.Picker.picks hardware credits controller start p q before calls made asks b has up a given busy
