pub mod Digest
pub mod Merging
pub mod Places
