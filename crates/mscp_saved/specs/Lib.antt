pub mod Saved
pub mod Ranges
pub mod Read
pub mod Restored
pub mod Faithful
pub mod Common
