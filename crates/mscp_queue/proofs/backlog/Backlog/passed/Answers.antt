use Rattle.mscp_queue.proofs.Common.{ap, arith, Waiters}
use Rattle.mscp_queue.proofs.Backlogs.{passed_is, passed_low, place_in}
use Rattle.mscp_queue.proofs.backlog.Backlog.passed.Goals as goal

pub due-requires : goal.due-requires
due-requires c = place_in _ _ c.self.inside.slots (ap (λ (w : Waiters). w.waiting) c.self.view_is) c.requires.place

pub overflow_sub-result : goal.overflow_sub-result
overflow_sub-result c =
    let is = passed_is c.self.invariant c.self.view_is c.requires.place in
    let budget = ap (λ (w : Waiters). w.budget) c.self.view_is in
    omega (arith, is, budget, c.left_up_to.ensures.value, c.left_behind.ensures.value, c.due.ensures, c.from.ensures)

pub overflow_cast-result : goal.overflow_cast-result
overflow_cast-result c =
    let is = passed_is c.self.invariant c.self.view_is c.requires.place in
    let low = passed_low c.self.invariant c.self.view_is c.requires.place in
    let budget = ap (λ (w : Waiters). w.budget) c.self.view_is in
    omega (
      arith,
      is,
      low,
      budget,
      c.self.invariant.fits,
      c.left_up_to.ensures.value,
      c.left_behind.ensures.value,
      c.due.ensures,
      c.from.ensures,
    )

pub returns : goal.returns
returns c = search (arith, passed_is)
