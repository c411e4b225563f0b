mod Feeds
mod Unique
mod Spoken
mod Leading
mod Marks
mod Existing
mod Standing
mod Stepping
mod Asking
mod Ending
mod Tallies
mod Counted
mod Hindered
mod Breaking
mod Reading
mod Wording
mod Listening
mod Coming
mod Ahead
mod Printed
mod Answering
mod Telling
mod Righting
mod Passing
pub mod Common
pub mod Exactly
