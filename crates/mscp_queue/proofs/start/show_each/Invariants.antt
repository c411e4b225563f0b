use Rattle.mscp_queue.proofs.Starting.{Looks}
use Rattle.mscp_queue.proofs.start.show_each.Given as goal

abbrev pub invariant-loop-place : goal.invariant-loop-place
invariant-loop-place l = Looks l.backlog.budget l.drives l.backlog.waiting l.place l.places.items l.view
