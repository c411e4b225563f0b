use Rattle.mscp_queue.proofs.Common.{◌≡◌, ◌<◌, ◌≤◌, ℕ, length, closed, start_in}
use Rattle.mscp_queue.proofs.favorites.Favorites.close.Given as goal

abbrev pub invariant-loop-k : goal.invariant-loop-k
invariant-loop-k l = record {
  long : length l.self.starts ≡ 16;
  below : (j : ℕ) → j < l.k → start_in l.self j ≡ closed l.gone (start_in l.fn.self j);
  above : (j : ℕ) → l.k ≤ j → start_in l.self j ≡ start_in l.fn.self j;
}
