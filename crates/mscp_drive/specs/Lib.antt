pub mod Shape
pub mod Reciprocals
pub mod Extent
pub mod Heads
pub mod UnitList
pub mod Common
pub mod Settings
pub mod Both
