pub mod Runs
pub mod Keys
