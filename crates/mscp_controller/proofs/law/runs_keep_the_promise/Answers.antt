use Rattle.mscp_controller.proofs.Bridge.Controllers.{runs}
use Rattle.mscp_controller.proofs.law.runs_keep_the_promise.Goals as goal

pub returns : goal.returns
returns g c = λ d events entries held valid answered.
    runs d (g.K.Picker.picks c.args.picker.now) c.args.picker.now events entries held valid answered
