use Rattle.mscp_queue.proofs.Common.{arith}
use Rattle.mscp_queue.proofs.Upcomings.{of_unit, told_at}
use Rattle.mscp_queue.proofs.queue.Queue.upcoming.Goals as goal

pub returns-clause-value : goal.returns-clause-value
returns-clause-value g c = search (arith, told_at)

pub returns-clause-unit : goal.returns-clause-unit
returns-clause-unit g c = search (
  arith,
  of_unit,
  c.self.invariant.ready.held.each,
  c.self.invariant.ready.waits,
  c.upcoming_at.ensures,
  c.self.view_is,
)
