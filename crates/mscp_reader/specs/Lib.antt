pub mod Lexical
pub mod Requests
pub mod Grammar
pub mod Plain
pub mod Outcome
pub mod Causes
pub mod Common
