pub mod Tables
pub mod Search
