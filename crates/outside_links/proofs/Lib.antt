pub mod ReadPieces
pub mod ClosedLinks
