pub mod Common
pub mod Keeping
pub mod Stepped
pub mod Back
pub mod Begun
pub mod Serials
pub mod Cookied
pub mod Told
