pub mod Acting
pub mod Knowing
pub mod Placing
pub mod Put
pub mod Registers
pub mod Whole
