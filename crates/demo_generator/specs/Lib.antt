pub mod Schedule
pub mod Files
