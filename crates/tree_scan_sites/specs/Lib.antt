pub mod Paths
pub mod Sites
pub mod Listed
pub mod Reached
pub mod Rows
pub mod Table
