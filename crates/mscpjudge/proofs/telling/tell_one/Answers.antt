use Rattle.mscpjudge.proofs.Common.{Err, TellsOne, ap, err_from_is_err_and, number_by, subst, sym, ◌∙◌}
use Rattle.mscpjudge.proofs.Answered.{one_fails, one_refused, one_told}
use Rattle.mscpjudge.proofs.telling.tell_one.Goals as goal

pub returns-in_err-verdict : goal.returns-in_err-verdict
returns-in_err-verdict c =
    let number = number_by c.args.numbers.now in
    let p = err_from_is_err_and c.from_residual.result c.from_residual.ensures.1 in
    subst (λ r. TellsOne c.args.extent number r c.args.log.now) (sym (p.1 ∙ ap (λ f. Err f) p.2))
    (one_refused c.args.alloc c.args.extent number c.args.log.now c.in_err-verdict.field-0.0
    c.in_err-verdict.ensures.judges
    c.in_err-verdict.ensures.only)

pub returns-in_err-text : goal.returns-in_err-text
returns-in_err-text c =
    let number = number_by c.args.numbers.now in
    let p = err_from_is_err_and c.from_residual-in_err-text.result c.from_residual-in_err-text.ensures.1 in
    subst (λ r. TellsOne c.args.extent number r c.args.log.now) (sym (p.1 ∙ ap (λ f. Err f) p.2))
    (one_fails c.args.extent number c.in_ok-verdict.verdict c.args.log.now c.in_err-text.field-0.0
    c.in_ok-verdict.ensures.judges c.in_ok-verdict.ensures.only c.in_err-text.ensures)

pub returns : goal.returns
returns c =
    let number = number_by c.args.numbers.now in
    one_told c.args.extent number c.in_ok-verdict.verdict c.args.log.now
    (record { outcome = c.wire_outcome-outcome.result; text = c.in_ok-text.text }) c.in_ok-verdict.ensures.judges
    c.in_ok-verdict.ensures.only c.in_ok-text.ensures c.wire_outcome-outcome.ensures
