mod Common
mod Counts
mod Shown
mod Taking
mod Owed
mod Answering
mod Messages
mod Small
mod Kept
mod Moments
pub mod Saying
pub mod Identity
mod Telling
pub mod Reading
pub mod Suited
pub mod Keeping
pub mod Suiting
mod Owners
mod Owning
pub mod Fitting
mod Making
mod Aborted
mod Pairing
mod Placing
mod Ordering
mod Waiting
mod Staying
mod Asking
mod Sending
mod Serving
mod Ending
mod Polling
mod Chaining
mod Hearing
mod Heeding
mod Falling
mod Listening
mod Heeded
mod Strict
mod Alike
mod Linking
mod Lenient
mod Judged
mod Effects
mod Stating
mod Standing
mod Stepping
mod Taken
