pub mod Constants
pub mod Texts
pub mod Rows
