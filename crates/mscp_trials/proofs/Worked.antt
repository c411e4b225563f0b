-- What the definitions refuse of literal runs and talks that were worked by hand, by computation.
pub mod Literals
pub mod Begins
pub mod Wrong
pub mod Connections
pub mod Talks
