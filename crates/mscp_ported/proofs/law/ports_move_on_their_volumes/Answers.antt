use Rattle.mscp_ported.proofs.Volumed.{moves_on}
use Rattle.mscp_ported.proofs.law.ports_move_on_their_volumes.Goals as goal

pub returns : goal.returns
returns g c = λ hardware credits controller start p calls asks kind unit block address count bytes made few a.
    moves_on g.K.Picker.picks hardware credits controller start made p calls asks kind unit block address count bytes
    few a
