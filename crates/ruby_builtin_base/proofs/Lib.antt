pub mod CharacterLaws
mod Joins
pub mod RowLaws
