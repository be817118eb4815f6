pub mod Deeds
pub mod Written
pub mod Owners
pub mod Standing
