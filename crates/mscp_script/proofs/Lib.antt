pub mod Common
pub mod Fronts
pub mod Growing
pub mod Faults
pub mod Words
mod Told
