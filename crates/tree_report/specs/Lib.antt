pub mod Limits
pub mod Refusals
pub mod Configurations
pub mod Listing
