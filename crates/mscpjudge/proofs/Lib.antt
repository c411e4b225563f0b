mod Common
pub mod Limited
pub mod Spending
pub mod Coming
pub mod Shown
pub mod Counted
pub mod Going
pub mod Ported
pub mod Answered
pub mod Standing
pub mod Timed
