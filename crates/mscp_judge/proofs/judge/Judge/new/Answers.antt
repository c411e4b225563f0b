use Rattle.mscp_judge.proofs.Common.{refl, ap, Reported}
use Rattle.mscp_judge.proofs.Coming.{stands_new}
use Rattle.mscp_judge.proofs.judge.Judge.new.Goals as goal

pub returns-clause-stands : goal.returns-clause-stands
returns-clause-stands g c =
    stands_new c.args.config _ c.new.ensures.valid c.new.ensures.fresh (ap (λ (r : Reported). r.lines) c.new-3.ensures)
    c.new-3.ensures refl c.none.ensures.figure c.none.ensures.passed
