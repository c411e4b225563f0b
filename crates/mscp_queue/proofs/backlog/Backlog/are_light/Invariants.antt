use Rattle.mscp_queue.proofs.Common.{◌≤◌, take, AllByRecursion, Record}
use Rattle.mscp_queue.proofs.backlog.Backlog.are_light.Given as goal

abbrev pub invariant-loop-place : goal.invariant-loop-place
invariant-loop-place l = AllByRecursion (λ (r : Record). r.weight ≤ l.most) (take l.place l.self.waiting)
