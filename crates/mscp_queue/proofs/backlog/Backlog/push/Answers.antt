use Rattle.mscp_queue.proofs.Basics.{arith, sum_by-append, sum_by-cons, due_pushed, items_append, told_left, told_pushed}
use Rattle.mscp_queue.proofs.Backlogs.{long_is, total_is}
use Rattle.mscp_queue.proofs.backlog.Backlog.push.Goals as goal

pub overflow_add-due : goal.overflow_add-due
overflow_add-due c = search (arith, total_is)

pub overflow_add-due-2 : goal.overflow_add-due-2
overflow_add-due-2 c = search (arith, total_is)

pub overflow_add-due-3 : goal.overflow_add-due-3
overflow_add-due-3 c = search (arith, total_is)

pub push-requires-clause-room : goal.push-requires-clause-room
push-requires-clause-room c = search (arith, long_is)

pub overflow_add-self : goal.overflow_add-self
overflow_add-self c = search (arith, total_is)

pub invariant_of-self : goal.invariant_of-self
invariant_of-self c = search (arith, items_append, due_pushed, sum_by-append, sum_by-cons)

pub returns-clause-waiting : goal.returns-clause-waiting
returns-clause-waiting c = search (arith, told_pushed, told_left)
