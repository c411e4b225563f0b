use Rattle.mscp_ported.proofs.Serials.{given_once, heard_of}
use Rattle.mscp_ported.proofs.law.ports_give_serials_once.Goals as goal

pub returns-clause-serials : goal.returns-clause-serials
returns-clause-serials g c = λ one other calls u few is a same.
    given_once g.K.Picker.picks u one is calls other few a same

pub returns-clause-blocks : goal.returns-clause-blocks
returns-clause-blocks g c = λ one other new calls u outcome done few is a goes.
    heard_of g.K.Picker.picks one other new calls u outcome done few is a goes
