pub mod Rows
pub mod Seated
