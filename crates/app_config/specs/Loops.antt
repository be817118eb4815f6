-- What loops of this crate compute, as functions that its proofs go through.
pub mod Left
pub mod Matching
