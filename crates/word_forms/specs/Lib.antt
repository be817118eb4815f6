pub mod Numbers
pub mod Targets
pub mod Paths
