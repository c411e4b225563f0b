use Rattle.mscp_queue.proofs.Common.{IsLane}
use Rattle.mscp_queue.proofs.lanes.least_lane.Given as goal

abbrev pub invariant-loop-place : goal.invariant-loop-place
invariant-loop-place l = IsLane l.cells l.place l.least
