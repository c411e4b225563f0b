use Rattle.mscp_judge.proofs.Common.{ap, sym, ◌∙◌, arith, err_from_is_err_and, words, events_of, line, asking, is_answer, telling, name_in}
use Rattle.mscp_judge.proofs.Breaking.{broken_early}
use Rattle.mscp_judge.proofs.Coming.{too_early}
use Rattle.mscp_judge.proofs.Righting.{stands_open_held}
use Rattle.mscp_judge.proofs.Wording.{unnamed}
use Rattle.mscp_judge.proofs.Reading.{answer_some, asks, asks_wrong, says_words, skipped, tells, unless, wrong_words}
use Rattle.mscp_judge.proofs.judging.judge_line.Goals as goal

pub returns-in_err-words-clause-hears : goal.returns-in_err-words-clause-hears
returns-in_err-words-clause-hears g c =
    let p = err_from_is_err_and c.from_residual.result c.from_residual.ensures.1 in
    rw (p.1, p.2) (λ d log s. wrong_words c.args.number log c.args.bytes.now c.in_err-words.field-0.0
    c.in_err-words.ensures.words)

pub returns-then-is_empty-clause-hears : goal.returns-then-is_empty-clause-hears
returns-then-is_empty-clause-hears g c = search (arith, skipped)

pub hear-requires-clause-words : goal.hear-requires-clause-words
hear-requires-clause-words g c = search (arith, says_words, answer_some)

pub hear-requires-clause-answer : goal.hear-requires-clause-answer
hear-requires-clause-answer g c =
    ap is_answer (sym (hear-requires-clause-words g c)) ∙ (sym c.is_answer.ensures ∙ c.if-is_answer.true)

pub hear-requires-clause-printed : goal.hear-requires-clause-printed
hear-requires-clause-printed g c = search (arith, says_words, answer_some)

pub returns-then-is_answer-clause-hears : goal.returns-then-is_answer-clause-hears
returns-then-is_answer-clause-hears g c = λ d log s. (
  telling log (line c.args.bytes.now),
  tells c.args.number log c.args.bytes.now _ c.in_ok-words.ensures.words
      (sym c.is_answer.ensures ∙ c.if-is_answer.true),
  c.in_ok-hear.ensures.tells d log s,
)

pub returns-in-Err-clause-hears : goal.returns-in-Err-clause-hears
returns-in-Err-clause-hears g c =
    λ d log s. asks_wrong c.args.number _ log c.args.bytes.now _ c.in-Err.fault (s.count ∙ sym c.count.ensures)
    c.in_ok-words.ensures.words (unless _ c.is_empty.ensures.1 c.if-is_empty.false)
    (sym c.is_answer.ensures ∙ c.if-is_answer.false) c.in-Err.ensures.asks

pub returns-in-Ok-clause-hears : goal.returns-in-Ok-clause-hears
returns-in-Ok-clause-hears g c = λ d log s.
    let new = events_of c.in-Ok.field-0 in
    let unasked = unnamed (words c.args.bytes.now) (ap is_answer
    (sym (says_words c.args.number c.args.bytes.now _ c.in_ok-words.ensures.words
    (unless _ c.is_empty.ensures.1 c.if-is_empty.false)).0)
    ∙ (sym c.is_answer.ensures ∙ c.if-is_answer.false)) in (
      asking log new,
      asks c.args.number _ log c.args.bytes.now _ new (s.count ∙ sym c.count.ensures) c.in_ok-words.ensures.words
          (unless _ c.is_empty.ensures.1 c.if-is_empty.false)
          (sym c.is_answer.ensures ∙ c.if-is_answer.false) c.in-Ok.ensures.asks,
      (
        too_early d log c.args.judge.now new s (c.is_settled.ensures.no c.if-not-is_settled.true),
        stands_open_held d log (name_in (words c.args.bytes.now)) c.args.judge.now s (λ none some. unasked),
      ),
    )

pub returns-in-Ok-clause-breaks : goal.returns-in-Ok-clause-breaks
returns-in-Ok-clause-breaks g c = search (arith, broken_early, says_words, unless)

pub returns-in_ok-ask-in-Ok-2-clause-hears : goal.returns-in_ok-ask-in-Ok-2-clause-hears
returns-in_ok-ask-in-Ok-2-clause-hears g c = λ d log s.
    let new = events_of c.in-Ok.field-0 in (
      asking log new,
      asks c.args.number _ log c.args.bytes.now _ new (s.count ∙ sym c.count.ensures) c.in_ok-words.ensures.words
          (unless _ c.is_empty.ensures.1 c.if-is_empty.false)
          (sym c.is_answer.ensures ∙ c.if-is_answer.false) c.in-Ok.ensures.asks,
      c.in_ok-ask-in-Ok-2.ensures.stands d log s,
    )
