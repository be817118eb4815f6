pub mod Paths
pub mod Deeds
pub mod Views
pub mod Noted
