use Rattle.mscp_queue.proofs.Fronts.{front_alone, front_free}
use Rattle.mscp_queue.proofs.masks.Masks.front.Goals as goal

pub returns-then-transfers-eq0 : goal.returns-then-transfers-eq0
returns-then-transfers-eq0 c =
    front_alone c.without-transfers.result c.narrowed-narrowed.ensures c.without-transfers.ensures
    c.if-transfers-eq0.true

pub returns-else-transfers-eq0 : goal.returns-else-transfers-eq0
returns-else-transfers-eq0 c = front_free c.without-transfers.result
    c.narrowed-narrowed.ensures c.without-transfers.ensures c.if-transfers-eq0.false c.without-transfers.type_inv
