pub mod Common
pub mod TwoEnds
