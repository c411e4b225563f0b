-- The reciprocal of a number: division by it is then one multiplication.
use Rattle.std.specs.Prelude.{ℕ, ◌/◌}

-- how often a number is contained in the largest number of 64 bits
abbrev pub reciprocal_of : ℕ → ℕ
reciprocal_of n = 18446744073709551615 / n
