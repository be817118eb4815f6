pub mod Runs
pub mod Failures
pub mod Ring
pub mod Steps
pub mod Progress
pub mod Ends
pub mod Gained
