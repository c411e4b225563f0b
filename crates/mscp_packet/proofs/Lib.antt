pub mod Common
pub mod Numbers
pub mod Blanks
pub mod Commands
pub mod Ends
pub mod Tables
pub mod Kept
pub mod Parts
