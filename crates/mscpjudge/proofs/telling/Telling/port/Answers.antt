use Rattle.mscpjudge.proofs.Common.{Part, ap, sym, ◌∙◌}
use Rattle.mscpjudge.proofs.Ported.{on_ok}
use Rattle.mscpjudge.proofs.Standing.{skipped_at}
use Rattle.mscpjudge.proofs.telling.Telling.port.Goals as goal

pub returns-then-section : goal.returns-then-section
returns-then-section c =
    on_ok c.section.result _ _ c.section.ensures
    (λ h bytes same s. h bytes same (sym (ap (λ (p : Part). p.occurs) same) ∙ c.if-section.true) s)

pub returns : goal.returns
returns c =
    λ bytes same s. skipped_at c.args.port c.args.extent bytes c.args.self.now
    (sym (ap (λ (p : Part). p.occurs) same) ∙ c.if-section.false) s
