-- What a list of units is.
use Rattle.std.specs.Prelude.{ℕ, ◌+◌, ◌<◌, ◌≤◌, nat_eq, List, length, slice_index_or, find, Option}
use Rattle.mscp_drive.specs.Shape.{Shape}

-- each number is above the one before it (profile)
abbrev pub NumbersRise : List Shape → Type 0
NumbersRise us =
    (i : ℕ) (u : Shape) → i + 1 < length us → (slice_index_or us i u).number < (slice_index_or us (i + 1) u).number

-- the units of a controller: 1 to 16, and their numbers rise (profile)
pub record IsUnitList (us : List Shape) : Type 0 where
  pub some : 0 < length us
  pub few : length us ≤ 16
  pub rising : NumbersRise us

-- the unit of this number, if it is configured (manual)
abbrev pub unit_found : List Shape → ℕ → Option Shape
unit_found us number = find (λ u. nat_eq u.number number) us
