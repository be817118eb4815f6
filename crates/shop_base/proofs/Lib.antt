pub mod Gaining
pub mod OwnRows
pub mod Later
