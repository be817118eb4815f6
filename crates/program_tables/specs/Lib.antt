pub mod Tables
pub mod Said
pub mod Resolved
pub mod Asks
