use Rattle.mscp_wire.proofs.Common.{IfOk-from_err, sym, ◌∙◌}
use Rattle.mscp_wire.proofs.Middles.{middle_more, of_some}
use Rattle.mscp_wire.proofs.middle.hear_if.Goals as goal

pub returns-in_ok-hear : goal.returns-in_ok-hear
returns-in_ok-hear g c = λ number log i.
    let p = of_some log.begun log.moments log.strangers c.args.middle.now c.in-Some.middle i c.in-Some.is in
    let rest = sym c.is_initial.ensures ∙ c.if-is_initial.false in (
      middle_more log.begun log.moments c.args.moment.now rest ∙ p.0,
      c.in_ok-hear.ensures log.moments log.strangers p.1 rest,
    )

pub returns-in_err-hear : goal.returns-in_err-hear
returns-in_err-hear g c = IfOk-from_err c.from_residual.result _ c.from_residual.ensures.0
