pub mod ArrayRows
pub mod Members
pub mod Numbers
