-- Two hosts and a controller that talk: what each keeps of the others, and what the talk so far says of all. What is
-- said of a host is said of its connection, and a turn of the other leaves it as it was.
pub mod Counting
pub mod Codes
pub mod Sides
pub mod Matching
pub mod Serving
pub mod Arriving
pub mod Foreign
pub mod Handing
pub mod Sending
pub mod Taking
pub mod Submitting
pub mod Talking
pub mod Tracing
pub mod Parts
pub mod Turned
pub mod Figured
pub mod Turning
pub mod Between
pub mod Talked
