use Rattle.std.proofs.Common.{◌+◌, ◌<◌, ℕ, slice_index_or}
use Rattle.mscp_drive.specs.Shape.{Shape}
use Rattle.mscp_drive.proofs.units.numbers_rise.Given as goal

-- the numbers rise up to place i
abbrev pub invariant-loop-i : goal.invariant-loop-i
invariant-loop-i l =
    (k : ℕ) (u : Shape) → k + 1 < l.i → (slice_index_or l.units k u).number < (slice_index_or l.units (k + 1) u).number
