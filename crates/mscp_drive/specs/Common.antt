-- What the code of this crate takes from specifications.
pub use Rattle.mscp_drive.specs.Extent.{blocks, range_fault, weighed, weight}
pub use Rattle.mscp_drive.specs.Heads.{carried, distance, moved, sweep_cost}
pub use Rattle.mscp_drive.specs.Reciprocals.{reciprocal_of}
pub use Rattle.mscp_drive.specs.Shape.{Shape, cylinder_blocks, cylinder_of, last_cylinder, shape}
pub use Rattle.mscp_drive.specs.UnitList.{IsUnitList, NumbersRise, unit_found}
pub use Rattle.std.specs.Option.{option_copied}
pub use Rattle.std.specs.Prelude.{List}
