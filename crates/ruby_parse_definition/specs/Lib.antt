pub mod Names
pub mod Answers
pub mod Places
pub mod Parts
