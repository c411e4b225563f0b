-- The start of a command.
use Rattle.std.specs.Prelude.{◌≡◌, ◌⊎◌, ℕ, ◌-◌, ◌/◌, ◌^◌, ◌%◌, ◌<◌, ◌≤◌, Bool, ◌&&◌, ◌||◌, if◌then◌else◌, nat_eq, nat_lt}

-- what it costs, and the place of the command in order of arrival: 64 of no command, 255 if it isn't known
pub record Start : Type 0 where
  pub cost : ℕ
  pub place : ℕ

-- the start is that of a command
abbrev pub is_one : Start → Bool
is_one s = nat_lt s.place 64

-- of two starts of commands that comes before which costs less, or as much where its command came earlier; before
-- another one that whose place is less
abbrev pub comes_before : Start → Start → Bool
comes_before one other = if is_one other
    then is_one one && (nat_lt one.cost other.cost || (nat_eq one.cost other.cost && nat_lt one.place other.place))
    else nat_lt one.place other.place

-- a place, once the command at the place `gone` left: where no command is it stays
abbrev pub place_closed : ℕ → ℕ → ℕ
place_closed gone place = if nat_lt gone place && nat_lt place 64 then place - 1 else place

-- the same of a start
abbrev pub closed : ℕ → Start → Start
closed gone s = record { cost = s.cost; place = place_closed gone s.place }

-- ---- as one number
-- more than any start costs
abbrev pub cost_end : ℕ
cost_end = 2 ^ 56 - 1

-- the start that a number is of
abbrev pub start_of : ℕ → Start
start_of key = record { cost = key / 256; place = key % 256 }

-- a number is of one of 64 places, or of none and greater than all of those
abbrev pub IsKey : ℕ → Type 0
IsKey key = ((key / 256 < cost_end) × (key % 256 < 64)) ⊎ ((key / 256 ≡ cost_end) × (64 ≤ key % 256))
