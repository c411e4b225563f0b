use Rattle.mscpjudge.proofs.judging.judge.Goals as goal

pub returns-clause-said : goal.returns-clause-said
returns-clause-said g c = (
  c.in_ok-log.log.items,
  c.in_ok-log.ensures.bytes,
  (
    c.in_ok-verdict.verdict,
    rw c.deref.ensures.value at (c.in_ok-verdict.ensures.judges),
    c.outcome_of.ensures,
    rw (c.deref-2.ensures.value, c.in_ok-text.ensures) at (c.in_ok-write_all.ensures.bytes),
  ),
)
