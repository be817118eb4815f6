pub mod Rest
pub mod Stops
