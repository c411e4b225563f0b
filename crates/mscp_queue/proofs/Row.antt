-- The costs of a view in a row of their own, and the first of the least of them.
use Rattle.mscp_queue.proofs.Common.{◌≡◌, ◌-◌, ◌<◌, ◌^◌, ℕ, List, length, subst, arith, Option, None, Some, IfNone, IfSome, unwrap_or, cases_lt, bit_at-zero, bit_at_ones, bit_at_ones_above, get_or-take, length-map, length-take-le, get_or_default, Choice, IsLeast, IsRow, IsSweep}

-- the first place with the least of these costs is what the sweep picks
swept : (row : List ℕ) (view : List Choice) (p : ℕ) → IsRow row view → IsLeast row (2 ^ length view - 1) p
    → IsSweep view p
swept row view p r h =
    grind (arith, cases_lt, length-map, bit_at_ones_above, get_or_default, bit_at_ones, length-take-le, get_or-take)

-- the place that is told is one, where there is a choice
pub swept_there : (row : List ℕ) (view : List Choice) (mask : ℕ) (o : Option ℕ) → IsRow row view → mask ≡ 2 ^ length
    view - 1 → IfSome o (λ p. IsLeast row mask p) → IfNone o (mask ≡ 0) → 0 < length view → IsSweep view (unwrap_or o 0)
swept_there row view mask None r e some none there = search (arith, bit_at_ones (length view) 0 there, bit_at-zero 0)
swept_there row view mask (Some p) r e some none there = swept row view p r (subst (λ m. IsLeast row m p) e some)
