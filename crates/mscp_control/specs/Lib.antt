pub mod Worst
pub mod Longest
pub mod Common
