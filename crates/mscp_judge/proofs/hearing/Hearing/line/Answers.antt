use Rattle.mscp_judge.proofs.Common.{sym, ◌∙◌, arith, err_from_is_err_and}
use Rattle.mscp_judge.proofs.Listening.{answers, asks, asks_wrong, skipped, wrong_words}
use Rattle.mscp_judge.proofs.Reading.{unless}
use Rattle.mscp_judge.proofs.hearing.Hearing.line.Goals as goal

pub returns-in_err-words-clause-heard : goal.returns-in_err-words-clause-heard
returns-in_err-words-clause-heard g c =
    let p = err_from_is_err_and c.from_residual.result c.from_residual.ensures.1 in
    rw (p.1, p.2) (λ h s. wrong_words c.args.number h c.args.bytes.now c.in_err-words.field-0.0
    c.in_err-words.ensures.words)

pub returns-then-is_empty-clause-heard : goal.returns-then-is_empty-clause-heard
returns-then-is_empty-clause-heard g c = search (arith, skipped)

pub returns-then-is_answer-clause-heard : goal.returns-then-is_answer-clause-heard
returns-then-is_answer-clause-heard g c = search (arith, answers, unless)

pub returns-in-Err-clause-heard : goal.returns-in-Err-clause-heard
returns-in-Err-clause-heard g c =
    λ h s. asks_wrong c.args.number _ h c.args.bytes.now _ c.in-Err.fault (sym s.count) c.in_ok-words.ensures.words
    (unless _ c.is_empty.ensures.1 c.if-is_empty.false)
    (sym c.is_answer.ensures ∙ c.if-is_answer.false) c.in-Err.ensures.asks

pub returns-in-Ok-clause-heard : goal.returns-in-Ok-clause-heard
returns-in-Ok-clause-heard g c = search (arith, asks, unless)
