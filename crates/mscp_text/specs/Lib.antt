pub mod Fronts
pub mod Lines
pub mod Shown
pub mod Common
