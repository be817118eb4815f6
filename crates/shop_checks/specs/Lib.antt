pub mod Turns
pub mod Opened
pub mod Tries
pub mod Reloaded
