pub mod Steady
pub mod Sections
pub mod Rooms
pub mod Whole
