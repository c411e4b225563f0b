-- Numbers in messages: the lowest byte first.
use Rattle.std.specs.Prelude.{ℕ, zero, suc, ◌+◌, ◌*◌, ◌^◌, List, slice_index}

-- the number in the n bytes of b from place i on: the sum of b[i + j] * 256 ^ j for j below n (manual)
abbrev pub num : List ℕ → ℕ → ℕ → ℕ
num b i zero = 0
num b i (suc n) = num b i n + slice_index b (i + n) * 256 ^ n
