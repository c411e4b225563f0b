pub mod Common
pub mod Longest
