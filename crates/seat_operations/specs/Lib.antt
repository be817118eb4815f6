pub mod Coming
pub mod Readying
