pub mod Quiet
pub mod Keeping
pub mod Checking
pub mod Done
