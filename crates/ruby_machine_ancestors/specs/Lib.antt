pub mod Ancestors
pub mod Gathers
