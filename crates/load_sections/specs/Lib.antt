pub mod Theories
pub mod Sections
