-- What is known of a controller and of its units.
use Rattle.std.specs.Prelude.{ℕ, ◌+◌, ◌-◌, ◌*◌, ◌^◌, ◌<◌, ◌≤◌, ◌≡◌, ◌⊎◌, ◌||◌, ◌==◌, nat_lt, nat_le, if◌then◌else◌, List, Option, Some, None, unwrap_or, Result, Ok, Err}
use Rattle.mscp_drive.specs.Shape.{Shape, one_block}
use Rattle.mscp_drive.specs.UnitList as list
use Rattle.mscp_drive.specs.declared.connection.Connection.{Connection}
use Rattle.mscp_drive.specs.declared.connection.Connection.TheVariants.{First, Second}
use Rattle.mscp_drive.specs.declared.config.ConfigFault.{ConfigFault}
use Rattle.mscp_drive.specs.declared.config.ConfigFault.TheVariants.{Credits, Longest, Timeout, Figure}

-- the limits of a controller, and its units. The second connection has no credits where there is none (profile)
pub record Settings : Type 0 where
  pub credits : ℕ
  pub second : ℕ
  pub budget : ℕ
  pub longest : ℕ
  pub timeout : ℕ
  pub id : ℕ
  pub units : List Shape

-- the credits of a connection's host (manual, "Flow Control")
abbrev pub credits_of : Settings → Connection → ℕ
credits_of c First = c.credits
credits_of c Second = c.second

-- how many commands of a connection may wait: one credit is kept for commands that are answered when they come
-- (profile)
abbrev pub room_of : Settings → Connection → ℕ
room_of c via = credits_of c via - 1

-- how many commands may wait, of both (profile)
abbrev pub room : Settings → ℕ
room c = room_of c First + room_of c Second

-- no figure is greater: the longest transfer for each command that may wait, the one that is meant too, and the budget
-- (profile)
abbrev pub bound : Settings → ℕ
bound c = room c * c.longest + c.budget

-- what the limits of each controller meet (profile)
pub record IsValid (c : Settings) : Type 0 where
  pub some_credits : 2 ≤ c.credits
  pub second_credits : (c.second ≡ 0) ⊎ (2 ≤ c.second)
  pub few_credits : c.credits + c.second ≤ 64
  pub some_blocks : 1 ≤ c.longest
  pub few_blocks : c.longest ≤ 8388608
  pub some_seconds : 1 ≤ c.timeout
  pub few_seconds : c.timeout ≤ 255
  pub small_bound : bound c < 2 ^ 32
  pub unit_list : list.IsUnitList c.units

-- why limits are refused, the first that holds (profile)
abbrev pub limit_fault : Settings → Option ConfigFault
limit_fault c =
    if nat_lt c.credits 2 || ((c.second == 1) || nat_lt 64 (c.credits + c.second)) then Some Credits else (
    if nat_lt c.longest 1 || nat_lt 8388608 c.longest then Some Longest else (
    if nat_lt c.timeout 1 || nat_lt 255 c.timeout then Some Timeout else (
    if nat_le (2 ^ 32) (bound c) then Some Figure else None)))

-- what comes of limits (profile)
abbrev pub configured_unless : Settings → Option ConfigFault → Result Settings ConfigFault
configured_unless c (Some fault) = Err fault
configured_unless c None = Ok c

abbrev pub configured : Settings → Result Settings ConfigFault
configured c = configured_unless c (limit_fault c)

-- the unit of this number, if it is configured (manual)
abbrev pub unit_found : Settings → ℕ → Option Shape
unit_found c number = list.unit_found c.units number

-- the unit of this number. No legal run asks for one that isn't configured (profile)
abbrev pub unit_shape : Settings → ℕ → Shape
unit_shape c number = unwrap_or (unit_found c number) one_block
