use Rattle.mscp_tracked.proofs.Serials.{serials_are_kept}
use Rattle.mscp_tracked.proofs.law.serials_are_kept.Goals as goal

pub returns : goal.returns
returns g c = λ first held calls few answered.
    serials_are_kept (g.K.Picker.picks c.args.picker.now) first held calls few answered
