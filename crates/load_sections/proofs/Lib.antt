pub mod Defining
pub mod Tables
pub mod Staying
pub mod Opening
