pub mod Conditions
pub mod Needed
