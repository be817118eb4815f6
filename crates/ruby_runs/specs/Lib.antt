pub mod Doing
pub mod BuiltIns
pub mod Names
pub mod Bodies
pub mod Runs
pub mod Asked
