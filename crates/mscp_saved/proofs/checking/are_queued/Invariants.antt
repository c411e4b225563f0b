use Rattle.mscp_saved.proofs.Common.{All, ◌≡◌, true, take, IsWaitable, are_queued}
use Rattle.mscp_saved.proofs.checking.are_queued.Given as goal

abbrev pub invariant-loop-place : goal.invariant-loop-place
invariant-loop-place l = record {
  value : are_queued l.config (take l.place l.waiting) ≡ true;
  waitable : All (λ r. IsWaitable l.config.longest l.config.units r.command) (take l.place l.waiting);
}
