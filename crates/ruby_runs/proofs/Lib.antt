pub mod Within
pub mod Names
pub mod Bodies
pub mod Runs
pub mod Asked
pub mod Layers
mod Examples
