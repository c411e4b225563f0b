-- How the head of a unit moves, and what that costs.
use Rattle.std.specs.Prelude.{ℕ, ◌+◌, ◌-◌, Bool, true, false, nat_lt, nat_le, ◌==◌, if◌then◌else◌}
use Rattle.mscp_drive.specs.declared.head.Head.{Head}

-- the way of a head that goes up or down from one cylinder to another, where the unit has a last one. A head that has
-- passed its goal first goes on to the end, and turns there (profile)
abbrev pub sweep_cost : ℕ → ℕ → Bool → ℕ → ℕ
sweep_cost last from true to = if nat_le from to then to - from else (last - from) + (last - to)
sweep_cost last from false to = if nat_le to from then from - to else from + to

-- how far two cylinders are apart (profile)
abbrev pub distance : ℕ → ℕ → ℕ
distance from to = (from - to) + (to - from)

-- a head after a start that touches a cylinder, which turns it if it moves (profile)
abbrev pub moved : Head → ℕ → Head
moved head to = record { cylinder = to; up = if head.cylinder == to then head.up else nat_lt head.cylinder to }

-- a head after a later block of a transfer, on a cylinder (profile)
abbrev pub carried : Head → ℕ → Head
carried head to = record { cylinder = to; up = head.up }
