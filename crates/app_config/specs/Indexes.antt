-- How what is looked up is kept, which no other crate sees.
pub mod Places
pub mod Arranged
