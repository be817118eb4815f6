pub mod Turns
pub mod Loads
pub mod Found
pub mod Then
