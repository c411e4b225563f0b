use Rattle.mscp_wire.proofs.Common.{false, get_or, nat_eq, ℕ, ◌%◌, ◌<◌, ◌≡◌}
use Rattle.mscp_wire.proofs.tags.have_left.Given as goal

abbrev pub invariant-loop-at : goal.invariant-loop-at
invariant-loop-at l =
    l.found ≡ false → (i : ℕ) → i < l.at → nat_eq (get_or l.tags i 0 % 4) l.left ≡ false
