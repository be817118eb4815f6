pub mod Tables
pub mod Seated
pub mod Keeping
