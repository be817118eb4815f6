mod DigitLaws
mod EscapeLaws
pub mod PathLaws
pub mod SegmentLaws
