pub mod Errors
pub mod Tables
