pub mod Scripts
pub mod Talks
pub mod Matches
pub mod TwoEnds
pub mod Conversing
pub mod Rooms
pub mod Common
