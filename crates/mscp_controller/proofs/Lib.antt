pub mod Common
pub mod Promise
pub mod Bridge
pub mod Basics
