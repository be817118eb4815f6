pub mod Scanned
pub mod Spells
pub mod Faults
pub mod Spelling
pub mod Sites
