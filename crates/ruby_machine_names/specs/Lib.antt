pub mod Names
pub mod Profile
pub mod Steps
