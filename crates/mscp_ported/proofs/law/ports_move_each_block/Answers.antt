use Rattle.mscp_ported.proofs.Moved.{good_told}
use Rattle.mscp_ported.proofs.Standing.{stands}
use Rattle.mscp_ported.specs.Making.{step_told}
use Rattle.mscp_ported.proofs.law.ports_move_each_block.Goals as goal

pub returns : goal.returns
returns g c = λ hardware credits controller start p calls outcome done via reference result u kind block e made asks a
    makes begun moves there.
    stands g.K.Picker.picks hardware credits controller start made p calls outcome done u kind block e asks a
    (good_told (step_told a.0 outcome a.0.task) a.0.controller.begun via reference result makes) begun moves there
