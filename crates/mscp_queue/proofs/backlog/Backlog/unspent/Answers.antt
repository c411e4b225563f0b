use Rattle.mscp_queue.proofs.Common.{ap, arith, Record, left_of}
use Rattle.mscp_queue.proofs.Backlogs.{unspent_is}
use Rattle.mscp_queue.proofs.backlog.Backlog.unspent.Goals as goal

pub overflow_cast-result : goal.overflow_cast-result
overflow_cast-result c =
    let is = unspent_is c.self.invariant c.self.view_is c.requires.some c.requires.idle in
    let item = ap (λ (r : Record). left_of r) c.item.ensures in
    omega (arith, is.0, is.1, c.due.ensures, c.from.ensures, c.left.ensures.value, item)

pub returns : goal.returns
returns c = search (arith, unspent_is)
