mod Common
pub mod Counting
pub mod Keys
mod Placed
pub mod Hearing
pub mod Passing
pub mod Doubting
pub mod Meaning
pub mod Once
mod Whole
mod Names
mod Alone
mod Marking
mod Tagged
mod Tables
mod Contradicted
pub mod Sparing
pub mod Going
mod Middles
mod Closing
mod Starting
mod Added
