-- Ranges of cylinders, by which the nearest first block is found.
use Rattle.std.specs.Prelude.{◌≡◌, ◌⊎◌, ℕ, ◌<◌, Bool, true, false, nat_eq, List, slice_index_or}
use Rattle.std.specs.Int.{bit_at}
use Rattle.mscp_queue.specs.Masks.{bit}

-- the range of a slot
abbrev pub range_at : List ℕ → ℕ → ℕ
range_at ranges k = slice_index_or ranges k 0

-- the masks are those of the slots in each range
pub record AreRanged (ranges masks : List ℕ) : Type 0 where
  pub low : (k : ℕ) → range_at ranges k < 64
  pub each : (range k : ℕ) → range < 64 → k < 64
      → bit_at (slice_index_or masks range 0) k ≡ bit (nat_eq (range_at ranges k) range)

-- a slot of a mask
abbrev pub IsIn : ℕ → ℕ → Type 0
IsIn mask k = (k < 64) × (bit_at mask k ≡ 1)

-- the slots found are of the mask and in ranges above this one, and each other that is lies above one of them
pub record IsAbove (ranges : List ℕ) (mask range found : ℕ) : Type 0 where
  pub to : (k : ℕ) → IsIn found k → IsIn mask k × (range < range_at ranges k)
  pub from : (k : ℕ) → IsIn mask k → range < range_at ranges k
      → IsIn found k ⊎ ((j : ℕ) × IsIn found j × (range_at ranges j < range_at ranges k))

-- the slots found are of the mask and in ranges below this one, and each other that is lies below one of them
pub record IsBelow (ranges : List ℕ) (mask range found : ℕ) : Type 0 where
  pub to : (k : ℕ) → IsIn found k → IsIn mask k × (range_at ranges k < range)
  pub from : (k : ℕ) → IsIn mask k → range_at ranges k < range
      → IsIn found k ⊎ ((j : ℕ) × IsIn found j × (range_at ranges k < range_at ranges j))

-- a head in a range, which goes up or down, comes to one range before it comes to the other
abbrev pub IsSooner : Bool → ℕ → ℕ → ℕ → Type 0
IsSooner true range one other = ((range < one) × (one < other)) ⊎ ((other < range) × (other < one))
IsSooner false range one other = ((one < range) × (other < one)) ⊎ ((range < other) × (one < other))

-- the slots found are of the mask, and to each other of it the head comes later than to one of them
pub record IsNearest (up : Bool) (ranges : List ℕ) (mask range found : ℕ) : Type 0 where
  pub to : (k : ℕ) → IsIn found k → IsIn mask k
  pub from : (k : ℕ) → IsIn mask k
      → IsIn found k ⊎ ((j : ℕ) × IsIn found j × IsSooner up range (range_at ranges j) (range_at ranges k))
