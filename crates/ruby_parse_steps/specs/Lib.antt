pub mod Gives
pub mod Levels
pub mod Scopes
pub mod Opens
pub mod Primaries
pub mod Postfixes
