pub mod NumberLaws
pub mod ScanLaws
pub mod StampLaws
