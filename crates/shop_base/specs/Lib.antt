pub mod Rows
pub mod Acts
pub mod Passes
pub mod Mine
