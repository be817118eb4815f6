pub mod Camel
pub mod Below
pub mod Counts
pub mod Spellings
pub mod Rules
