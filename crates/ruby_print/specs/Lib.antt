pub mod Pieces
pub mod Expressions
pub mod Pending
pub mod Statements
pub mod Definitions
