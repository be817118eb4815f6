pub mod Courses
pub mod Freshness
