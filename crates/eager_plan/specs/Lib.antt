pub mod Plan
pub mod Chosen
