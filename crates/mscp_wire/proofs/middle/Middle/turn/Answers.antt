use Rattle.std.proofs.lemmas.Result.{IfOk-from_err}
use Rattle.mscp_wire.proofs.middle.Middle.turn.Goals as goal

pub returns-in_err-insert-clause-units : goal.returns-in_err-insert-clause-units
returns-in_err-insert-clause-units g c = IfOk-from_err c.from_residual.result _ c.from_residual.ensures.0
