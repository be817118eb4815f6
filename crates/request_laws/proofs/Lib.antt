pub mod Standing
pub mod Conducting
