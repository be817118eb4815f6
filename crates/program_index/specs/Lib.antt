pub mod Content
pub mod Controllers
pub mod Program
pub mod Tables
pub mod Lookups
