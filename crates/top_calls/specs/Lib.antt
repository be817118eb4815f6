pub mod Target
pub mod Output
pub mod Answers
