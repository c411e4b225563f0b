-- The cylinders of a unit.
use Rattle.std.proofs.Common.{arith, ℕ, ◌≤◌, ◌<◌}
use Rattle.std.proofs.Math.Nat.{div-mul-le_self}
use Rattle.std.proofs.lemmas.Nat.{le-div}
use Rattle.mscp_drive.specs.Shape.{Shape, cylinder_blocks, cylinder_of, last_cylinder}

-- no block of a unit lies past its last cylinder
pub cylinder_within : (u : Shape) (block : ℕ)
    → 0 < cylinder_blocks u → block < u.size → cylinder_of u block ≤ last_cylinder u
cylinder_within u block some inside = le-div _ _ _ some (omega (arith, div-mul-le_self block (cylinder_blocks u)))
