use Rattle.mscp_wire.proofs.Common.{false, get_or, nat_eq, ℕ, ◌<◌, ◌≡◌}
use Rattle.mscp_wire.proofs.tags.have.Given as goal

abbrev pub invariant-loop-at : goal.invariant-loop-at
invariant-loop-at l = l.found ≡ false → (i : ℕ) → i < l.at → nat_eq (get_or l.tags i 0) l.tag ≡ false
