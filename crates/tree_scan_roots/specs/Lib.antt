pub mod Directories
pub mod Keys
pub mod Roots
pub mod Above
