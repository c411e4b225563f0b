use Rattle.mscp_queue.proofs.Sums.{held_small}
use Rattle.mscp_queue.proofs.queue.Queue.look.Goals as goal

pub look-requires-clause-small : goal.look-requires-clause-small
look-requires-clause-small g c = held_small c.self.invariant.ready.held
