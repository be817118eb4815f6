pub mod Counted
pub mod Lock
pub mod Rows
