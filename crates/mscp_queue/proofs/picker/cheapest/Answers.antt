use Rattle.mscp_queue.proofs.Common.{arith}
use Rattle.mscp_queue.proofs.Swept.{cheaper, no_cheaper, swept}
use Rattle.mscp_queue.proofs.picker.cheapest.Goals as goal
use Rattle.mscp_queue.proofs.picker.cheapest.Goals.{then-cost-least, else-cost-least}

pub loop-place-preserved : goal.loop-place-preserved
loop-place-preserved c = elim c.if-cost-least.branch [
  | then-cost-least w ↦ cheaper
      _ c.loop-place.invariant c.loop-place-test.true w.if-cost-least.true w.best-is w.least-is
  | else-cost-least w ↦ no_cheaper
      _ c.loop-place.invariant c.loop-place-test.true w.if-cost-least.false w.best-is w.least-is
]

pub returns-clause-sweep : goal.returns-clause-sweep
returns-clause-sweep c = λ some.
    swept c.loop-place.invariant (omega (arith, some, c.loop-place-test.false, c.loop-place.auto.place-end))
