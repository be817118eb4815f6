pub mod Lookup
pub mod Standing
