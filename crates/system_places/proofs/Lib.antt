pub mod Chaining
pub mod Fields
