pub mod Finishing
pub mod Pacing
