mod Common
mod Placing
