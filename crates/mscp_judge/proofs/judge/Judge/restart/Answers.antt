use Rattle.mscp_judge.proofs.Common.{refl, ap, ◌∙◌, Holdings, fresh, Reported, Wanted}
use Rattle.mscp_judge.proofs.Coming.{stands_new}
use Rattle.mscp_judge.proofs.judge.Judge.restart.Goals as goal

pub returns-clause-stands : goal.returns-clause-stands
returns-clause-stands g c = λ d v e.
    let after = c.replace_picker.ensures.after in
    let settings = ap (λ (h : Holdings Wanted). h.settings) after ∙ e in
    let picker = ap (λ (h : Holdings Wanted). h.picker) after in
    stands_new d _ v (c.reset.ensures.fresh ∙ (λ i. fresh (settings i) (picker i)))
    (ap (λ (r : Reported). r.lines) c.restart.ensures) c.restart.ensures refl c.none-self.ensures.figure
    c.none-self.ensures.passed
