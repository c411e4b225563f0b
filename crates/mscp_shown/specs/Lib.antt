pub mod Shown
pub mod Keeping
