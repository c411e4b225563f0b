use Rattle.mscp_queue.proofs.Whys.{Holders}
use Rattle.mscp_queue.proofs.why.put_holders.Given as goal

abbrev pub invariant-loop-earlier : goal.invariant-loop-earlier
invariant-loop-earlier l = Holders l.budget l.backlog.waiting l.place l.earlier l.holders.items
