use Rattle.mscp_ported.proofs.Soon.{tells_soon}
use Rattle.mscp_ported.proofs.law.ports_tell_soon.Goals as goal

pub returns : goal.returns
returns g c = λ hardware credits controller start p q before calls o made asks b has up out a given long.
    tells_soon g.K.Picker.picks hardware credits controller start p q before calls o made asks b has up out a given long
