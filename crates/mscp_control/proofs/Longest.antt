-- A command may have to wait as long as the bound.
pub mod Builds
pub mod Counted
pub mod Moments
pub mod Reads
pub mod Runs
pub mod Sees
pub mod Least
