pub mod Deeds
pub mod Hearing
