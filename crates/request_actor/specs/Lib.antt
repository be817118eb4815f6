pub mod Talks
pub mod Order
pub mod Answers
