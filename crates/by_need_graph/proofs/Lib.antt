pub mod Questions
pub mod Facts
pub mod Ways
