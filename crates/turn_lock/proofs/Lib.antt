pub mod Histories
pub mod Counts
pub mod Keeping
pub mod Backing
