pub mod PlacedLaws
pub mod OnceLaws
pub mod TaskLaws
