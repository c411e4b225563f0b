pub mod Common
pub mod Bytes
pub mod Sizes
pub mod PartsRead
pub mod Rising
pub mod Framed
pub mod Configured
pub mod Sound
pub mod Outcomes
pub mod BackParts
pub mod Back
pub mod HeldBack
pub mod Complete
pub mod Faithful
pub mod Parted
mod Gathered
