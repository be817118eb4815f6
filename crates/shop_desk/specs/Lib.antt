pub mod Ledgers
pub mod Limits
pub mod Taken
