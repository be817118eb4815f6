pub mod Quoting
pub mod Segments
