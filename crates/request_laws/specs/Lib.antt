pub mod Standing
pub mod Conduct
pub mod Making
