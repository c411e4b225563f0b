use Rattle.std.proofs.lemmas.Result.{IfOk-from_err}
use Rattle.mscp_wire.proofs.middle.Middle.put.Goals as goal

pub returns-in_err-insert-clause-names : goal.returns-in_err-insert-clause-names
returns-in_err-insert-clause-names g c = IfOk-from_err c.from_residual.result _ c.from_residual.ensures.0
