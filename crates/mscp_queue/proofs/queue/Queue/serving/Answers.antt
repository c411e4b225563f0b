use Rattle.mscp_queue.proofs.queue.Queue.serving.Goals as goal

pub record-requires : goal.record-requires
record-requires g c = (c.self.invariant.ready.served c.in_ok-place.place c.in_ok-place.was).0
