use Rattle.std.proofs.Common.{refl}
use Rattle.mscpjudge.proofs.showing.show_captured.Goals as goal

pub returns-clause-told : goal.returns-clause-told
returns-clause-told g c = (
  c.in_ok-log.log.items,
  c.in_ok-log.ensures.bytes,
  (
    c.in_ok-text.text.items,
    rw c.deref.ensures.value at (c.in_ok-text.ensures),
    refl,
    rw c.deref-2.ensures.value at (c.in_ok-write_all.ensures.bytes),
  ),
)
