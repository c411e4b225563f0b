pub mod Cookies
pub mod Trackings
pub mod Saved
pub mod Calls
pub mod Cookied
pub mod Common
