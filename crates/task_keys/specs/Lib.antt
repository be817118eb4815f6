pub mod Names
pub mod Same
pub mod Keys
pub mod Bytes
