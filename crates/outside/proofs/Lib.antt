pub mod ToldLaws
pub mod Pieces
pub mod TableLaws
pub mod TreeLaws
