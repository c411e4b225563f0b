use Rattle.mscp_ported.proofs.News.{announces}
use Rattle.mscp_ported.proofs.law.ports_announce_available_units.Goals as goal

pub returns : goal.returns
returns g c = λ hardware credits controller start p call calls o units made a none some kind.
    announces g.K.Picker.picks hardware credits controller start made p call calls o units a none some kind
