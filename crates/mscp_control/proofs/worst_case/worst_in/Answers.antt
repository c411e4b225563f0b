use Rattle.mscp_control.proofs.Common.{ap, sym, subst, arith, option_copied, IsLegal, WaitsTheBound}
use Rattle.mscp_control.proofs.Longest.Least.{least_found}
use Rattle.mscp_control.proofs.worst_case.worst_in.Goals as goal

pub returns-in_ok-written-in-Some-clause-legal : goal.returns-in_ok-written-in-Some-clause-legal
returns-in_ok-written-in-Some-clause-legal g c =
    let config = c.args.config.now in
    subst (λ t. IsLegal config t) (sym c.in_ok-written-in-Some.ensures) (least_found config c.args.unit
    c.units.result.now (option_copied c.find.result) c.in-Some.unit.now c.room.ensures.valid (omega arith)
    c.units.ensures.value c.find.ensures (ap option_copied c.in-Some.is) (omega arith) (omega arith)).0

pub returns-in_ok-written-in-Some-clause-waits : goal.returns-in_ok-written-in-Some-clause-waits
returns-in_ok-written-in-Some-clause-waits g c =
    let config = c.args.config.now in
    subst (λ t. WaitsTheBound config c.args.unit t) (sym c.in_ok-written-in-Some.ensures) (least_found config
    c.args.unit c.units.result.now (option_copied c.find.result) c.in-Some.unit.now c.room.ensures.valid (omega arith)
    c.units.ensures.value c.find.ensures (ap option_copied c.in-Some.is) (omega arith) (omega arith)).1
