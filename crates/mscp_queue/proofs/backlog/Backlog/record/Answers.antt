use Rattle.mscp_queue.proofs.Common.{ap, ◌∙◌, Waiters}
use Rattle.mscp_queue.proofs.Backlogs.{item_at, place_in}
use Rattle.mscp_queue.proofs.backlog.Backlog.record.Goals as goal

pub item-requires : goal.item-requires
item-requires c = place_in _ _ c.self.inside.slots (ap (λ (w : Waiters). w.waiting) c.self.view_is) c.requires

pub returns : goal.returns
returns c = c.item.ensures ∙ item_at c.self.invariant (ap (λ (w : Waiters). w.waiting) c.self.view_is) c.requires
