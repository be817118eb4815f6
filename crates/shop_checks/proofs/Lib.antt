pub mod Turning
pub mod Outcomes
