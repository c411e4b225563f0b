use Rattle.mscp_ported.proofs.Following.{owed_so}
use Rattle.mscp_ported.proofs.law.ports_do_what_is_due.Goals as goal

pub returns : goal.returns
returns g c = λ hardware credits controller start p calls blocks action bytes made asks a.
    owed_so g.K.Picker.picks hardware credits controller start made p calls blocks action bytes asks a
