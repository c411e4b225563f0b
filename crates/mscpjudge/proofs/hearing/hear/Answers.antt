use Rattle.mscpjudge.proofs.Common.{ap, heard_outcome, ◌∙◌}
use Rattle.mscpjudge.proofs.hearing.hear.Goals as goal

pub returns-clause-told : goal.returns-clause-told
returns-clause-told g c =
    let k = rw c.deref.ensures.value at (c.in_ok-hearing.ensures) in
    let s = k.2 in (
      c.in_ok-log.log.items,
      c.in_ok-log.ensures.bytes,
      (
        k.0,
        k.1,
        c.heard_outcome-outcome.ensures ∙ ap heard_outcome s.resets,
        rw (c.deref-2.ensures.value, c.in_ok-put_counts.ensures, s.text, s.ends, s.resets)
            at (c.in_ok-write_all.ensures.bytes),
      ),
    )
