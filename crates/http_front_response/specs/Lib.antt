pub mod Notices
pub mod Response
