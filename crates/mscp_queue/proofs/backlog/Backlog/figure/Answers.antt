use Rattle.mscp_queue.proofs.Common.{◌≡◌, ◌+◌, ap, arith, Waiters, figure_at}
use Rattle.mscp_queue.proofs.Sums.{figure_small}
use Rattle.mscp_queue.proofs.Backlogs.{figure_is, figure_left, place_in}
use Rattle.mscp_queue.proofs.backlog.Backlog.figure.Goals as goal

pub item-record-requires : goal.item-record-requires
item-record-requires c = search (arith, place_in)

pub due-requires : goal.due-requires
due-requires c = place_in _ _ c.self.inside.slots (ap (λ (w : Waiters). w.waiting) c.self.view_is) c.requires.place

is : (c : goal.After-due) → c.due.result ≡ c.self.inside.clock
    + figure_at c.args.self.now.budget c.args.self.now.waiting c.args.place
is c = search (arith, figure_is)

pub overflow_sub-result : goal.overflow_sub-result
overflow_sub-result c = omega (arith, is c)

pub overflow_cast-result : goal.overflow_cast-result
overflow_cast-result c = search (arith, is, figure_small)

pub returns-then-is_unstarted : goal.returns-then-is_unstarted
returns-then-is_unstarted c = omega (arith, is c.before)

pub returns-else-is_unstarted : goal.returns-else-is_unstarted
returns-else-is_unstarted c = search (arith, figure_left)
