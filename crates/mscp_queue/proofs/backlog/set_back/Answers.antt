use Rattle.mscp_queue.proofs.Basics.{lowered_none, arith}
use Rattle.mscp_queue.proofs.backlog.set_back.Goals as goal

pub returns-then-clock-lt-CLOCK_END-clause-dues : goal.returns-then-clock-lt-CLOCK_END-clause-dues
returns-then-clock-lt-CLOCK_END-clause-dues c = search (arith, lowered_none)
