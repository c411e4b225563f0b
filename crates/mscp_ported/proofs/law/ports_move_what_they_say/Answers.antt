use Rattle.mscp_ported.proofs.Moved.{moves_what_it_says}
use Rattle.mscp_ported.proofs.law.ports_move_what_they_say.Goals as goal

pub returns : goal.returns
returns g c = λ hardware credits controller start p calls outcome done via reference result u kind block made
    asks a makes
    begun moves.
    moves_what_it_says g.K.Picker.picks hardware credits controller start made p calls outcome done via reference
    result u
    kind block asks a makes begun moves
