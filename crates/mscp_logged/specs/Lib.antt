pub mod Logged
pub mod Rules
