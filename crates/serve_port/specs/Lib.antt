pub mod Answered
pub mod Became
