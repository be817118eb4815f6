pub mod Held
pub mod Leaving
pub mod Seeking
pub mod Turned
