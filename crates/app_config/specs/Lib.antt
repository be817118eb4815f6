pub mod Text
pub mod Paths
pub mod Entries
pub mod Configuration
pub mod Patterns
pub mod Inflections
pub mod Loops
pub mod Indexes
