pub mod Standing
pub mod Guarded
