pub mod Standing
pub mod Sections
