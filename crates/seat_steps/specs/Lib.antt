pub mod Theories
pub mod Stepping
pub mod Standing
