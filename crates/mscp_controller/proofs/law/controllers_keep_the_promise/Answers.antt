use Rattle.mscp_controller.proofs.Bridge.Controllers.{keeps_promise}
use Rattle.mscp_controller.proofs.law.controllers_keep_the_promise.Goals as goal

pub returns : goal.returns
returns g c = λ d calls held valid called. keeps_promise d (g.K.Picker.picks c.args.picker.now) c.args.picker.now calls
    held valid called
