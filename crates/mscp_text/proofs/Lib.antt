pub mod Hexadecimal
pub mod Packets
pub mod Pasts
pub mod Longer
