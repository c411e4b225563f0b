use Rattle.mscp_queue.proofs.Ranging.{down_ahead, down_behind, or_small}
use Rattle.mscp_queue.proofs.ranges.Ranges.nearest_down.Goals as goal

pub returns-then-ahead-eq0 : goal.returns-then-ahead-eq0
returns-then-ahead-eq0 c = down_behind c.here.result
    c.above.result c.below.result c.here.ensures c.above.ensures c.below.ensures c.if-ahead-eq0.true

pub returns-else-ahead-eq0 : goal.returns-else-ahead-eq0
returns-else-ahead-eq0 c = down_ahead c.here.result c.below.result c.here.ensures c.below.ensures c.if-ahead-eq0.false
    (or_small c.here.result c.below.result c.here.type_inv c.below.type_inv)
