use Rattle.mscp_saved.proofs.Faithful.{restoring_is_faithful}
use Rattle.mscp_saved.proofs.law.restoring_is_faithful.Goals as goal

pub returns : goal.returns
returns g c = restoring_is_faithful c.args.picker.now
