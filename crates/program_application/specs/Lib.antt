pub mod Applications
pub mod Replies
