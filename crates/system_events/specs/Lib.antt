pub mod Facts
pub mod State
pub mod Guards
pub mod Steps
pub mod Legal
pub mod Right
