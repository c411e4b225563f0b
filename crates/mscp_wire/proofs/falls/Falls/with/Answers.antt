use Rattle.mscp_wire.proofs.Counting.{falls_more}
use Rattle.mscp_wire.proofs.falls.Falls.with.Goals as goal

pub returns : goal.returns
returns c = λ h m e k. falls_more h m c.args.self.now _ _ e k c.lesser.ensures c.max.ensures
