pub mod Members
pub mod Groups
pub mod Seen
pub mod Definitions
pub mod Codes
