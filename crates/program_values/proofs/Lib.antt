pub mod Values
pub mod Keeps
pub mod Names
pub mod Bodies
pub mod Runs
pub mod Known
