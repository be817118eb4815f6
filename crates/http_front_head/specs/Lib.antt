pub mod Heads
pub mod Lines
pub mod Loops
pub mod Parts
