use Rattle.mscp_tracked.proofs.Told.{cookies_are_kept}
use Rattle.mscp_tracked.proofs.law.cookies_are_kept.Goals as goal

pub returns : goal.returns
returns g c = cookies_are_kept (g.K.Picker.picks c.args.picker.now) c.args.picker.now
