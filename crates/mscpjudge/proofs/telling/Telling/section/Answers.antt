use Rattle.mscpjudge.proofs.Common.{Err, Part, Some, TellsOne, ap, earlier, fault_by, number_by, subst, sym, ◌∙◌}
use Rattle.mscpjudge.proofs.Standing.{fails_at, told_at}
use Rattle.mscpjudge.proofs.telling.Telling.section.Goals as goal

pub returns-in_ok-put-in-Ok : goal.returns-in_ok-put-in-Ok
returns-in_ok-put-in-Ok c =
    λ bytes same is s. told_at c.args.port c.args.extent bytes c.deref.result.now c.deref-2.result.now
    c.args.self.now c.put.new.self c.in-Ok.told (c.deref.ensures.value ∙ ap (λ (p : Part). p.log) same)
    (c.deref-2.ensures.value ∙ ap (λ (p : Part). p.numbers) same) is c.in-Ok.ensures
    c.in_ok-put-in-Ok.ensures.fault c.in_ok-put-in-Ok.ensures.outcome c.in_ok-put-in-Ok.ensures.text s

pub returns-in-Err-Script : goal.returns-in-Err-Script
returns-in-Err-Script c =
    λ bytes same is s. fails_at c.args.port c.args.extent bytes c.deref.result.now c.deref-2.result.now
    c.args.self.now (record c.args.self.now { fault = Some c.earlier.result }) c.in-Err-Script.fault
    (c.deref.ensures.value ∙ ap (λ (p : Part). p.log) same)
    (c.deref-2.ensures.value ∙ ap (λ (p : Part). p.numbers) same) is
    (subst (λ f. TellsOne c.args.extent (number_by c.deref-2.result.now) (Err f) c.deref.result.now)
    c.in-Err-Script.field-0-is c.in-Err-Script.ensures)
    (ap (λ f. Some f) (c.earlier.ensures ∙ ap (earlier c.args.self.now.fault) (c.fault_of.ensures
    ∙ ap (λ xs. fault_by (number_by xs) c.in-Err-Script.fault)
    (c.deref-in-Err-Script.ensures.value ∙ sym c.deref-2.ensures.value)))) s
