use Rattle.mscp_queue.proofs.Basics.{held_small}
use Rattle.mscp_queue.proofs.queue.Queue.figure.Goals as goal

pub figure-requires-clause-small : goal.figure-requires-clause-small
figure-requires-clause-small g c = held_small c.self.invariant.ready.held
