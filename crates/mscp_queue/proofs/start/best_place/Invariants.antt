use Rattle.mscp_queue.proofs.Common.{AreFavored, IsBest, commands, cost_of}
use Rattle.mscp_queue.proofs.Aims.{IsBelow}
use Rattle.mscp_queue.proofs.start.best_place.Given as goal

abbrev pub invariant-loop-at : goal.invariant-loop-at
invariant-loop-at l = record {
  favored : AreFavored l.drives (commands l.backlog.waiting) l.favorites;
  best : IsBest (IsBelow l.drives (commands l.backlog.waiting) l.at) (cost_of l.drives (commands l.backlog.waiting))
      l.first;
}
