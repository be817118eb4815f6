pub mod Play
pub mod Situation
pub mod Turning
