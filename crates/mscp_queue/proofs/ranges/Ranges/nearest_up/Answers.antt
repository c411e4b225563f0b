use Rattle.mscp_queue.proofs.Ranging.{or_small, up_ahead, up_behind}
use Rattle.mscp_queue.proofs.ranges.Ranges.nearest_up.Goals as goal

pub returns-then-ahead-eq0 : goal.returns-then-ahead-eq0
returns-then-ahead-eq0 c = up_behind c.here.result
    c.above.result c.below.result c.here.ensures c.above.ensures c.below.ensures c.if-ahead-eq0.true

pub returns-else-ahead-eq0 : goal.returns-else-ahead-eq0
returns-else-ahead-eq0 c = up_ahead c.here.result c.above.result c.here.ensures c.above.ensures c.if-ahead-eq0.false
    (or_small c.here.result c.above.result c.here.type_inv c.above.type_inv)
