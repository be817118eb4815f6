pub mod Counts
pub mod Rows
pub mod Served
pub mod Told
