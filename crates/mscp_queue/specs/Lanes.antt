-- What the lanes of a vector hold.
use Rattle.std.specs.Prelude.{◌≡◌, ◌≢◌, ◌<◌, ◌≤◌, ◌+◌, ◌-◌, ◌*◌, ◌^◌, ◌==◌, ◌⊎◌, ℕ, if◌then◌else◌, List, length, slice_index}
use Rattle.std.specs.Int.{bit_at}

-- v has eight lanes, and lane k holds f k
pub record HasLanes (v : List ℕ) (f : ℕ → ℕ) : Type 0 where
  pub long : length v ≡ 8
  pub each : (k : ℕ) → k < 8 → slice_index v k ≡ f k

-- a number x at place k, less by an amount where the bit of its place is set
abbrev pub lowered : ℕ → ℕ → ℕ → ℕ → ℕ
lowered mask by k x = if bit_at mask k == 1 then x - by else x

-- p is the first place with the least of the numbers whose bits are set
pub record IsLeast (costs : List ℕ) (mask p : ℕ) : Type 0 where
  pub low : p < 64
  pub masked : bit_at mask p ≡ 1
  pub least : (k : ℕ) → k < 64 → bit_at mask k ≡ 1 → slice_index costs p ≤ slice_index costs k
  pub first : (k : ℕ) → k < p → bit_at mask k ≡ 1 → slice_index costs p < slice_index costs k

-- x is no more than each of the first n lanes, and it is one of them or the greatest number of all
pub record IsLane (v : List ℕ) (n x : ℕ) : Type 0 where
  pub below : (k : ℕ) → k < n → x ≤ slice_index v k
  pub found : (x ≡ 2 ^ 64 - 1) ⊎ ((k : ℕ) × (k < n) × (slice_index v k ≡ x))

-- x is no more than each masked cost in lane j of the first n blocks, and it is one of them or the greatest number
pub record IsLow (costs : List ℕ) (mask n j x : ℕ) : Type 0 where
  pub below : (i : ℕ) → i < n → bit_at mask (8 * i + j) ≡ 1 → x ≤ slice_index costs (8 * i + j)
  pub found : (x ≡ 2 ^ 64 - 1) ⊎ ((i : ℕ) × (i < n) × (bit_at mask (8 * i + j) ≡ 1)
      × (slice_index costs (8 * i + j) ≡ x))

-- x is no more than each masked cost, and it is one of them or the greatest number of all
pub record IsCost (costs : List ℕ) (mask x : ℕ) : Type 0 where
  pub below : (k : ℕ) → k < 64 → bit_at mask k ≡ 1 → x ≤ slice_index costs k
  pub found : (x ≡ 2 ^ 64 - 1) ⊎ ((k : ℕ) × (k < 64) × (bit_at mask k ≡ 1) × (slice_index costs k ≡ x))

-- p is the first masked place that holds x
pub record IsFirst (costs : List ℕ) (mask x p : ℕ) : Type 0 where
  pub low : p < 64
  pub masked : bit_at mask p ≡ 1
  pub holds : slice_index costs p ≡ x
  pub first : (k : ℕ) → k < p → bit_at mask k ≡ 1 → slice_index costs k ≢ x
