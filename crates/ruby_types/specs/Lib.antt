pub mod Pairing
pub mod Paths
pub mod Same
pub mod Size
