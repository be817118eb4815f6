pub mod Faults
pub mod Tree
