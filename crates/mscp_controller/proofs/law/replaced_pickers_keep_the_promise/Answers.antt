use Rattle.mscp_controller.proofs.Bridge.Replacing.{keeps_in_turn}
use Rattle.mscp_controller.proofs.law.replaced_pickers_keep_the_promise.Goals as goal

pub returns : goal.returns
returns g c = λ d turns held valid answered.
    keeps_in_turn d g.K.Picker.picks c.args.picker.now turns held valid answered
