pub mod Trying
pub mod Standing
