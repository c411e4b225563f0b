use Rattle.mscp_queue.proofs.Common.{arith}
use Rattle.mscp_queue.proofs.LaneLeasts.{lane_more}
use Rattle.mscp_queue.proofs.lanes.least_lane.Goals as goal

pub loop-place-preserved : goal.loop-place-preserved
loop-place-preserved c = search (arith, lane_more)
