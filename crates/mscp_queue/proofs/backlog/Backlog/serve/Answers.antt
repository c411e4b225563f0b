use Rattle.mscp_queue.proofs.Common.{arith}
use Rattle.mscp_queue.proofs.BacklogSteps.{back_idle, ended_at, front_idle}
use Rattle.mscp_queue.proofs.backlog.Backlog.serve.Goals as goal

pub leave-requires-clause-front : goal.leave-requires-clause-front
leave-requires-clause-front c = search (arith, front_idle)

pub leave-requires-clause-back : goal.leave-requires-clause-back
leave-requires-clause-back c = search (arith, back_idle)

pub returns-then-ends-clause-waiting : goal.returns-then-ends-clause-waiting
returns-then-ends-clause-waiting c =
    search (arith, ended_at, c.requires.place, c.advance.ensures.waiting, c.leave.ensures.waiting, c.if-ends.true)
