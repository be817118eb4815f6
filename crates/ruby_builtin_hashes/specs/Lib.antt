pub mod HashRows
pub mod Pairs
