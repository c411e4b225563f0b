use Rattle.mscp_queue.proofs.Common.{arith}
use Rattle.mscp_queue.proofs.Backlogs.{kinds_are, long_is}
use Rattle.mscp_queue.proofs.backlog.Backlog.favorite.Goals as goal

pub favorite-requires-clause-few : goal.favorite-requires-clause-few
favorite-requires-clause-few c = search (arith, long_is)

pub returns : goal.returns
returns c = search (arith, kinds_are)
