pub mod Tasks
pub mod Lawful
mod Examples
