pub mod Common
mod Counting
mod Worked
