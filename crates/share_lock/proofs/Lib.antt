pub mod Counting
pub mod Fronts
pub mod OtherSeats
pub mod Sound
